-- The faults that only this program has: their lines, whether they are refusals, and what each
-- leaves of the answer.
use Rattle.std.specs.Prelude.{ℕ, Bool, true, false, List, ◌++◌, codes}
use Rattle.asm_files.specs.Faults.{fault_line}
use Rattle.asm_files.specs.declared.fault.AssemblyFault.{AssemblyFault}
use Rattle.asm_tokens.specs.declared.fault.AsmFaultKind.{AsmFaultKind}
use Rattle.asm_tokens.specs.declared.fault.AsmFaultKind.TheVariants as kinds
use Rattle.printing.specs.Endings as endings
use Rattle.printing.specs.Endings.{Failure, Refused}
use Rattle.program_io.specs.Faults as faults
use Rattle.program_io.specs.declared.fault.Fault.{Fault as FaultOf}
use Rattle.program_io.specs.declared.fault.Fault.TheVariants.{Own}
use Rattle.asm_program.specs.declared.faults.OwnFault.{OwnFault}
use Rattle.asm_program.specs.declared.faults.OwnFault.TheVariants.{CannotReadAssembly, Assembly}

-- why the program does not end with status 0
abbrev pub Fault : Type 0
Fault = FaultOf OwnFault

-- the answer to a command: the text that is printed, or the fault
abbrev pub Answer : Type 0
Answer = endings.Answer (Unit {0}) Fault

-- what standard error says of it
abbrev pub own_text : OwnFault → List ℕ
own_text CannotReadAssembly = codes "cannot read assembly"
own_text (Assembly fault) = codes "assembly " ++ fault_line fault

-- assembly was refused
abbrev pub is_refusal : OwnFault → Bool
is_refusal CannotReadAssembly = false
is_refusal (Assembly fault) = true

-- a fault of assembly as one of the program; out of memory has no place
abbrev pub fault_of_kind : AsmFaultKind → AssemblyFault → Fault
fault_of_kind kinds.NoMemory fault = faults.no_memory
fault_of_kind _ fault = Own (Assembly fault)

abbrev pub assembly_fault : AssemblyFault → Fault
assembly_fault fault = fault_of_kind fault.fault.kind fault

-- nothing is printed before the whole was found good
abbrev pub own_failure : OwnFault → Failure (Unit {0})
own_failure fault = Refused

abbrev pub fault_text : Fault → List ℕ
fault_text fault = faults.fault_text own_text fault

abbrev pub status_of : Fault → ℕ
status_of fault = faults.status_of is_refusal fault

abbrev pub failure_of : Fault → Failure (Unit {0})
failure_of fault = faults.failure_of own_failure false fault
