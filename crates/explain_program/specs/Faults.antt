-- The faults that only this program has: their lines, whether they are refusals, and what each
-- leaves of the answer.
use Rattle.std.specs.Prelude.{ℕ, Bool, true, false, List, ◌++◌, codes, decimal, Some, Option}
use Rattle.cores.specs.Faults.{step_fault_text}
use Rattle.cores.specs.Runs.{Stop}
use Rattle.printing.specs.Endings.{Failure, Refused, Stopped}
use Rattle.program_io.specs.Faults as faults
use Rattle.program_io.specs.declared.fault.Fault.{Fault as FaultOf}
use Rattle.explain_program.specs.declared.faults.OwnFault.{OwnFault}
use Rattle.explain_program.specs.declared.faults.OwnFault.TheVariants.{TooLong, Step}
use Rattle.explain_program.specs.declared.faults.OwnFault.TheVariants.{CannotReadMap, Map}

-- why the program does not end with status 0
abbrev pub Fault : Type 0
Fault = FaultOf OwnFault

-- what standard error says of it
abbrev pub own_text : OwnFault → List ℕ
own_text TooLong = codes "too many events for a page: use --from and --to"
own_text (Step place fault) =
    codes "order step " ++ (decimal place ++ (codes ": " ++ step_fault_text fault))
own_text CannotReadMap = codes "cannot read map"
own_text (Map line) = codes "map line " ++ decimal line

-- a page, a step or a map was refused
abbrev pub is_refusal : OwnFault → Bool
is_refusal TooLong = true
is_refusal (Step place fault) = true
is_refusal CannotReadMap = false
is_refusal (Map line) = true

-- what it leaves of the answer
abbrev pub own_failure : OwnFault → Failure (Option Stop)
own_failure TooLong = Refused
own_failure (Step place fault) = Stopped (Some (place, fault))
own_failure CannotReadMap = Refused
own_failure (Map line) = Refused

-- the line of any fault, its status, and what it leaves of the answer, which is printed in pieces
abbrev pub fault_text : Fault → List ℕ
fault_text fault = faults.fault_text own_text fault

abbrev pub status_of : Fault → ℕ
status_of fault = faults.status_of is_refusal fault

abbrev pub failure_of : Fault → Failure (Option Stop)
failure_of fault = faults.failure_of own_failure true fault
