-- each step so far was there, or is the one that fills
use Rattle.std.proofs.Common.{◌≡◌, ℕ, ◌⊎◌}
use Rattle.std.specs.Prelude.{slice_get, Some}
use Rattle.states.specs.declared.steps.KnownStep.{KnownStep}
use Rattle.states.proofs.steps.fill.Given as goal

abbrev pub invariant-loop : goal.invariant-loop
invariant-loop l = (k : ℕ) (other : KnownStep) → slice_get l.recent.items k ≡ Some other →
    (slice_get l.initial.recent.items k ≡ Some other) ⊎ (l.step ≡ other)
