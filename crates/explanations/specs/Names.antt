-- Names of places: of a step's own hart, of the whole machine, and of the places of the image that
-- values come from.
use Rattle.std.specs.Prelude.{ℕ, List, codes, decimal}
use Rattle.report_lines.specs.Texts.{◌+++◌}
use Rattle.report_lines.specs.ValueText.{hex_text}
use Rattle.report_lines.specs.Names.{address_of_granule, register_name, memory_name}
use Rattle.origins.specs.declared.place.Spot.{Spot}
use Rattle.origins.specs.declared.place.Spot.TheVariants.{Pcc, Register, Granule}
use Rattle.origins.specs.declared.place.Place.{Place}
use Rattle.origins.specs.declared.place.Place.TheVariants.{PccOf, RegisterOf, GranuleOf}

-- a place as the hart that steps names it
abbrev pub spot_name : Spot → List ℕ
spot_name Pcc = codes "pcc"
spot_name (Register number) = register_name number
spot_name (Granule number) = memory_name (address_of_granule number)

-- a place that a sweep cleared: that of a hart after the hart's number
abbrev pub swept_name : Place → List ℕ
swept_name (PccOf hart) = decimal hart +++ codes ":pcc"
swept_name (RegisterOf hart number) = decimal hart +++ codes ":c" +++ decimal number
swept_name (GranuleOf number) = memory_name (address_of_granule number)

-- where the image has the capability that a value comes from
abbrev pub origin_name : Place → List ℕ
origin_name (PccOf hart) = decimal hart +++ codes ":pcc"
origin_name (RegisterOf hart number) = decimal hart +++ codes ":c" +++ decimal number
origin_name (GranuleOf number) = codes "mem:" +++ hex_text 16 (address_of_granule number)
