-- Steps for one item after another, up to the first fault.
use Rattle.std.specs.Prelude.{◌≡◌, ◌⊎◌, ℕ, ◌+◌, List, [], ◌∷◌, Result, Ok, Err}
use Rattle.asm_tokens.specs.Faults.{◌>>=◌}
use Rattle.asm_files.specs.declared.fault.AssemblyFault.{AssemblyFault}
use Rattle.asm_files.specs.Faults.{IsNoMemory}

-- a step for each item, which is given the item's number
unfoldable pub each_from : {X S E : Type 0} → (ℕ → X → S → Result S E) → ℕ → List X → S → Result S E
each_from step number [] state = Ok state
each_from step number (x ∷ xs) state =
    step number x state >>= λ next. each_from step (number + 1) xs next

-- an answer by what it should be, with what it leaves; or out of memory
abbrev pub Leaves : {S : Type 0} → Result (Unit {0}) AssemblyFault → S → Result S AssemblyFault
    → Type 0
Leaves (Ok done) new meaning = meaning ≡ Ok new
Leaves (Err fault) new meaning = IsNoMemory fault ⊎ (meaning ≡ Err fault)
