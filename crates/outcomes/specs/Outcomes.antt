-- Outcomes: kept states in which no hart runs.
use Rattle.std.specs.Prelude.{◌≡◌, ℕ, ◌<◌, List, slice_get, Option, Some, Bool, true, not}
use Rattle.std.specs.List.{list_all}
use Rattle.cheri_model.specs.steps.Hart.{HartState}
use Rattle.cheri_model.specs.runs.Machine.{MachineState, is_running}
use Rattle.states.specs.Kept.{KeptParts, at, count}

-- no hart runs
abbrev pub is_stopped : HartState → Bool
is_stopped hart = not (is_running hart.status)

unfoldable pub is_final : MachineState → Bool
is_final state = list_all is_stopped state.harts

-- The numbers are those of all states below this one in which no hart runs, ascending.
pub record AreOutcomesBelow (at : ℕ → Option MachineState) (end : ℕ) (numbers : List ℕ)
    : Type 0 where
  pub each : (k n : ℕ) → slice_get numbers k ≡ Some n →
      (n < end) × ((s : MachineState) → at n ≡ Some s → is_final s ≡ true)
  pub all : (n : ℕ) (s : MachineState) → n < end → at n ≡ Some s → is_final s ≡ true →
      (k : ℕ) × (slice_get numbers k ≡ Some n)
  pub ascending : (j k m n : ℕ) → j < k → slice_get numbers j ≡ Some m →
      slice_get numbers k ≡ Some n → m < n

-- The numbers are those of all kept states in which no hart runs, in the order of their witnesses.
abbrev pub AreOutcomes : KeptParts → List ℕ → Type 0
AreOutcomes kept numbers = AreOutcomesBelow (at kept) (count kept) numbers
