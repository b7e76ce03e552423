-- No value of an answer has a float.
use Rattle.std.proofs.Common.{◌≡◌, ℕ, Bool, true, false, List, refl}
use Rattle.std.specs.Prelude.{Option, Some, None}
use Rattle.serde_json.specs.Data.{no_members}
use Rattle.serde_json.specs.Written.{has_float}
use Rattle.outcomes.specs.declared.items.ItemValue.{ItemValue}
use Rattle.sample_tallies.specs.declared.seen.Seen.{Seen}
use Rattle.sample_tallies.specs.declared.seen.TrapPlace.{TrapPlace}
use Rattle.sample_tallies.specs.Tables.{Entry}
use Rattle.explore_properties.specs.Properties.{PropertyParts}
use Rattle.sample_checks.specs.declared.told.Decided.{Decided}
use Rattle.sample_checks.specs.declared.told.PropertySeen.{PropertySeen}
use Rattle.sample_texts.specs.PropertyTexts.{answer_data, may_hold, property_data}
use Rattle.sample_texts.specs.SampleData.{row_data, runs_data, trap_data}
use Rattle.sample_texts.specs.SampleParts.{Drawn}
use Rattle.outcomes.proofs.ItemTextLemmas.{items_no_float}

pub trap_no_float : (drawn : Drawn) (trap : Entry TrapPlace) → has_float (trap_data drawn trap) ≡ false
unfolding trap_data
trap_no_float drawn trap = refl

pub runs_no_float : (drawn : Drawn) (seen : Option Seen) → has_float (runs_data drawn seen) ≡ false
runs_no_float drawn None = refl
runs_no_float drawn (Some seen) = refl

pub row_no_float : (drawn : Drawn) (names : List (List ℕ)) (row : Entry (List ItemValue)) → has_float (row_data drawn names row) ≡ false
unfolding row_data
row_no_float drawn names row = rw (items_no_float names row.key no_members refl) refl

answer_no_float : (property : PropertyParts) (holds : Bool) (decided : Option Decided) → has_float (answer_data property holds decided) ≡ false
answer_no_float property holds None = refl
answer_no_float property true (Some decided) = refl
answer_no_float property false (Some decided) = refl

pub property_no_float : (told : PropertySeen) → has_float (property_data told) ≡ false
unfolding property_data
property_no_float told = answer_no_float told.property.now (may_hold told.property.now.claim) told.decided

pub ruleset floatless = (trap_no_float, runs_no_float, row_no_float, property_no_float)
