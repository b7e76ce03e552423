-- The steps that were computed.
use Rattle.std.specs.Prelude.{◌≡◌, ℕ, List, [], ◌∷◌, length, slice_get, Some}
use Rattle.interner.specs.Rows.{Rows}
use Rattle.states.specs.declared.steps.KnownStep.{KnownStep}

-- the step is one of these
abbrev pub IsKnown : List KnownStep → KnownStep → Type 0
IsKnown steps step = (k : ℕ) × (slice_get steps k ≡ Some step)

-- What is kept beside steps: the numbers of each step's hart and value, under the step's own number;
-- and some of the steps once more.
pub record AreSteps (keys : Rows) (steps recent : List KnownStep) : Type 0 where
  pub width : keys.width ≡ 2
  pub as_many : length steps ≡ length keys.rows
  pub keys_are : (k : ℕ) (step : KnownStep) → slice_get steps k ≡ Some step →
      slice_get keys.rows k ≡ Some (step.hart ∷ step.value ∷ [])
  pub recent_are : (k : ℕ) (step : KnownStep) → slice_get recent k ≡ Some step → IsKnown steps step
