-- What a hart's loop calls of its gate.
use Rattle.std.specs.Prelude.{◌≡◌, ◌⊎◌, ℕ, zero, suc, List, [], ◌∷◌, ◌++◌}
use Rattle.harts.specs.declared.gates.Call.{Call}
use Rattle.harts.specs.declared.gates.Call.TheVariants.{Before, After}
use Rattle.harts.specs.declared.gates.Turn.TheVariants.{Go, End}
use Rattle.harts.specs.declared.workers.Why.{Why}
use Rattle.harts.specs.declared.workers.Why.TheVariants.{Turns, Gate, Stopped, Refused}

-- these calls, and then those before and after each of a hart's first turns, in which it stepped
unfoldable pub with_turns : List Call → ℕ → ℕ → List Call
with_turns calls hart zero = calls
with_turns calls hart (suc turn) =
    (with_turns calls hart turn ++ Before hart turn Go ∷ []) ++ After hart turn ∷ []

-- What a loop calls after its last step, by why it ended. A gate that ends it is asked before the
-- next turn, and so is one whose hart is refused then.
abbrev pub AreLast : ℕ → ℕ → Why → List Call → Type 0
AreLast hart steps Turns calls = calls ≡ []
AreLast hart steps Gate calls = calls ≡ Before hart steps End ∷ []
AreLast hart steps Stopped calls = (calls ≡ []) ⊎ (calls ≡ Before hart steps Go ∷ [])
AreLast hart steps (Refused fault) calls = calls ≡ Before hart steps Go ∷ []

-- The calls after a loop of so many steps: those before it, those of its steps, and the last.
unfoldable pub AreCalls : List Call → List Call → ℕ → ℕ → Why → Type 0
AreCalls old new hart steps why =
    (last : List Call) × AreLast hart steps why last × (new ≡ with_turns old hart steps ++ last)
