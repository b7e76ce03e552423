-- What is shown of a state in JSON has no float.
use Rattle.std.proofs.Common.{◌≡◌, List, [], ◌∷◌, map, false, refl}
use Rattle.cap_model.specs.values.CapValue.{CapValue}
use Rattle.cheri_model.specs.steps.Hart.{HartState}
use Rattle.serde_json.specs.Data.{no_members}
use Rattle.serde_json.specs.View.{items_of}
use Rattle.serde_json.specs.Written.{has_float, items_have_float}
use Rattle.reports.specs.Json.{hart_data, harts_data, memory_data}
use Rattle.reports.proofs.JsonLemmas.{granules_no_float, hart_no_float}

each_no_float : (harts : List HartState) → items_have_float (items_of (map hart_data harts)) ≡ false
each_no_float [] = refl
each_no_float (h ∷ rest) = rw (hart_no_float h) (each_no_float rest)

pub harts_no_float : (harts : List HartState) → has_float (harts_data harts) ≡ false
harts_no_float harts = each_no_float harts

pub memory_no_float : (memory : List CapValue) → has_float (memory_data memory) ≡ false
memory_no_float memory = granules_no_float 0 memory no_members refl
