-- The faults that only this program has: their lines, which are refusals, and what each leaves of
-- the answer.
use Rattle.std.specs.Prelude.{ℕ, List, ◌++◌, codes, decimal, Bool, true, false, Option, Some}
use Rattle.cores.specs.Faults.{step_fault_text}
use Rattle.cores.specs.Runs.{Stop}
use Rattle.harts.specs.declared.faults.RunFault.{RunFault}
use Rattle.harts.specs.declared.faults.RunFault.TheVariants as race
use Rattle.number_lines.specs.declared.numbers.NumberFault.{NumberFault}
use Rattle.number_lines.specs.declared.numbers.NumberFault.TheVariants as numbers
use Rattle.printing.specs.Endings.{Failure, Refused, Stopped}
use Rattle.program_io.specs.Faults as faults
use Rattle.program_io.specs.Faults.{no_memory}
use Rattle.program_io.specs.declared.fault.Fault.{Fault as FaultOf}
use Rattle.program_io.specs.declared.fault.Fault.TheVariants.{Own}
use Rattle.sim_program.specs.declared.faults.OwnFault.{OwnFault}
use Rattle.sim_program.specs.declared.faults.OwnFault.TheVariants.{BadNumber, CannotStart}
use Rattle.sim_program.specs.declared.faults.OwnFault.TheVariants.{ImageDiffers, Step}

-- why the program does not end with status 0
abbrev pub Fault : Type 0
Fault = FaultOf OwnFault

-- what standard error says of it
abbrev pub own_text : OwnFault → List ℕ
own_text BadNumber = codes "bad number"
own_text CannotStart = codes "cannot start a worker"
own_text ImageDiffers = codes "image differs"
own_text (Step place fault) =
    codes "order step " ++ (decimal place ++ (codes ": " ++ step_fault_text fault))

-- a number or a step was refused
abbrev pub is_refusal : OwnFault → Bool
is_refusal BadNumber = true
is_refusal CannotStart = false
is_refusal ImageDiffers = false
is_refusal (Step place fault) = true

-- what it leaves of the answer
abbrev pub own_failure : OwnFault → Failure (Option Stop)
own_failure BadNumber = Refused
own_failure CannotStart = Refused
own_failure ImageDiffers = Refused
own_failure (Step place fault) = Stopped (Some (place, fault))

-- the line of any fault, its status, and what it leaves of the answer, which is printed in pieces
-- or at once
abbrev pub fault_text : Fault → List ℕ
fault_text fault = faults.fault_text own_text fault

abbrev pub status_of : Fault → ℕ
status_of fault = faults.status_of is_refusal fault

abbrev pub failure_of : Bool → Fault → Failure (Option Stop)
failure_of in_pieces fault = faults.failure_of own_failure in_pieces fault

-- arguments that no line answers
abbrev pub number_fault : NumberFault → Fault
number_fault numbers.NoMemory = no_memory
number_fault numbers.BadNumber = Own BadNumber

-- A race that was refused. The program's limit is lawful, so booting only runs out of memory.
abbrev pub race_fault : RunFault → Fault
race_fault (race.Boot fault) = no_memory
race_fault race.NoMemory = no_memory
race_fault race.Spawn = Own CannotStart
race_fault race.ImageDiffers = Own ImageDiffers
