-- What is said of runs that go on for ever has no float.
use Rattle.std.proofs.Common.{◌≡◌, false, refl}
use Rattle.serde_json.specs.Written.{has_float}
use Rattle.outcome_texts.specs.EndlessTexts.{endless_data}
use Rattle.state_loops.specs.declared.endless.Endless.{Endless}
use Rattle.state_loops.specs.declared.endless.Endless.TheVariants.{Yes, Unknown, Unfair, No}

pub endless_no_float : (endless : Endless) → has_float (endless_data endless) ≡ false
endless_no_float (Yes lasso) = refl
endless_no_float Unknown = refl
endless_no_float (Unfair lasso) = refl
endless_no_float No = refl
