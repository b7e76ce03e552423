-- Faults of expressions that are worked out late.
use Rattle.std.specs.Prelude.{◌≡◌, ◌⊎◌, ℕ, Result, Ok, Err}
use Rattle.asm_tokens.specs.declared.fault.AsmFaultKind.{AsmFaultKind}
use Rattle.asm_tokens.specs.declared.fault.AsmFaultKind.TheVariants as faults
use Rattle.asm_chains.specs.declared.scene.LateFault.{LateFault}
use Rattle.asm_chains.specs.declared.scene.Setting.{Setting}

-- out of memory, which has no place
abbrev pub no_memory : LateFault
no_memory = record { file = 0; kind = faults.NoMemory; at = 0 }

-- a fault at a token of an expression
abbrev pub fault_in : Setting → AsmFaultKind → ℕ → LateFault
fault_in setting kind at = record { file = setting.file; kind = kind; at = at }

-- an answer by what it should be, or out of memory
abbrev pub GivesLate : {X : Type 0} → Result X LateFault → Result X LateFault → Type 0
GivesLate (Ok value) meaning = meaning ≡ Ok value
GivesLate (Err fault) meaning = (fault ≡ no_memory) ⊎ (meaning ≡ Err fault)
