-- Answers of values in their files.
use Rattle.std.proofs.Common.{◌≡◌, ◌⊎◌, inl, inr, Result, Ok, Err, refl, sym, ap, ◌∙◌}
use Rattle.asm_tokens.specs.declared.fault.AsmFaultKind.{AsmFaultKind}
use Rattle.asm_tokens.specs.declared.fault.AsmFaultKind.TheVariants.{NoMemory}
use Rattle.asm_values.specs.declared.values.Value.{Value}
use Rattle.asm_files.specs.declared.fault.AssemblyFault.{AssemblyFault}
use Rattle.asm_files.specs.Faults.{GivesAll}
use Rattle.asm_files.specs.Programs.{ProgramParts}
use Rattle.asm_chains.specs.declared.scene.LateFault.{LateFault}
use Rattle.asm_chains.specs.Faults.{GivesLate, no_memory}
use Rattle.asm_late.specs.Values.{in_files, late_fault}

pub value_in_file : (program : ProgramParts) (value : Value) (meaning : Result Value LateFault) → GivesLate {X = Value} (Ok value) meaning
    → GivesAll {X = Value} {Y = Value} (λ v. v) (Ok value) (in_files program meaning)
value_in_file program value meaning gives = rw gives refl

-- a fault other than out of memory is the meaning's
pub fault_in_file : (program : ProgramParts) (fault : LateFault) (told : AssemblyFault) (meaning : Result Value LateFault) → (fault.kind ≡ NoMemory → ⊥)
    → told ≡ late_fault program fault → GivesLate {X = Value} (Err fault) meaning → GivesAll {X = Value} {Y = Value} (λ v. v) (Err told) (in_files program meaning)
fault_in_file program fault told meaning some is (inl none) = absurd (some (ap (λ (f : LateFault). f.kind) none))
fault_in_file program fault told meaning some is (inr refused) = inr (rw (refused, is) refl)
