-- No value of a row has a float.
use Rattle.std.proofs.Common.{◌≡◌, ℕ, Bool, false, true, List, refl}
use Rattle.serde_json.specs.Data.{no_members}
use Rattle.serde_json.specs.Written.{has_float}
use Rattle.outcomes.proofs.ItemTextLemmas.{items_no_float}
use Rattle.outcome_texts.specs.OutcomeTexts.{row_data}
use Rattle.outcome_texts.specs.ReducedTexts.{reduced_row_data, said_row_data}
use Rattle.outcome_texts.specs.declared.told.ShownRow.{ShownRow}

pub row_no_float : (reduced : Bool) (names : List (List ℕ)) (row : ShownRow) → has_float (said_row_data reduced names row) ≡ false
unfolding row_data reduced_row_data
row_no_float false names row = rw (items_no_float names row.values.items no_members refl) refl
row_no_float true names row = rw (items_no_float names row.values.items no_members refl) refl
