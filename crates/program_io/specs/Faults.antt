-- What is said of a program's faults, their exit statuses, and what each leaves of the answer.
use Rattle.std.specs.Prelude.{ℕ, List, codes, Bool, if◌then◌else◌, Option, Some}
use Rattle.command_line.specs.declared.faults.CommandFault.{CommandFault}
use Rattle.command_line.specs.declared.faults.CommandFault.TheVariants as commands
use Rattle.inputs.specs.Faults.{fault_text as input_text, listing_fault, order_fault}
use Rattle.inputs.specs.Faults.{status_of as input_status}
use Rattle.inputs.specs.declared.fault.InputFault.{InputFault}
use Rattle.inputs.specs.declared.fault.InputFault.TheVariants as inputs
use Rattle.printing.specs.Endings.{Failure, Refused, Unwritten, OutOfMemory}
use Rattle.simulation.specs.declared.faults.SimFault.{SimFault}
use Rattle.simulation.specs.declared.faults.SimFault.TheVariants as sim
use Rattle.sinks.specs.declared.fault.WriteFault.{WriteFault}
use Rattle.sinks.specs.declared.fault.WriteFault.TheVariants as written
use Rattle.program_io.specs.declared.fault.Fault.{Fault}
use Rattle.program_io.specs.declared.fault.Fault.TheVariants.{Usage, Input, CannotWrite, Own}

-- what standard error says of a fault, where it is known what it says of those of the program alone
abbrev pub text_of : {T : Type 0} → (T → Option (List ℕ)) → Fault T → Option (List ℕ)
text_of own Usage = Some (codes "usage")
text_of own (Input fault) = Some (input_text fault)
text_of own CannotWrite = Some (codes "cannot write")
text_of own (Own fault) = own fault

-- the same, where it says something of each
abbrev pub fault_text : {T : Type 0} → (T → List ℕ) → Fault T → List ℕ
fault_text own Usage = codes "usage"
fault_text own (Input fault) = input_text fault
fault_text own CannotWrite = codes "cannot write"
fault_text own (Own fault) = own fault

-- The exit status: 1 where a number, a text or a step was refused, 2 where the command line was, 3
-- for all else.
abbrev pub status_of : {T : Type 0} → (T → Bool) → Fault T → ℕ
status_of is_refusal Usage = 2
status_of is_refusal (Input fault) = input_status fault
status_of is_refusal CannotWrite = 3
status_of is_refusal (Own fault) = if is_refusal fault then 1 else 3

-- how a command fails by it, whose text is printed in pieces or at once
abbrev pub input_failure : {End : Type 0} → Bool → InputFault → Failure End
input_failure in_pieces inputs.NoMemory = OutOfMemory in_pieces
input_failure in_pieces _ = Refused

abbrev pub failure_of : {End T : Type 0} → (T → Failure End) → Bool → Fault T → Failure End
failure_of own in_pieces Usage = Refused
failure_of own in_pieces (Input fault) = input_failure in_pieces fault
failure_of own in_pieces CannotWrite = Unwritten
failure_of own in_pieces (Own fault) = own fault

-- Refusals as faults of a program.
abbrev pub no_memory : {T : Type 0} → Fault T
no_memory = Input inputs.NoMemory

abbrev pub command_fault : {T : Type 0} → CommandFault → Fault T
command_fault commands.Usage = Usage
command_fault commands.NoMemory = no_memory

-- a text that was not written whole
abbrev pub written_fault : {T : Type 0} → WriteFault → Fault T
written_fault written.Write = CannotWrite
written_fault written.NoMemory = no_memory

-- A run that was refused. A program's limit is lawful, so booting only runs out of memory.
abbrev pub sim_fault : {T : Type 0} → SimFault → Fault T
sim_fault (sim.Listing fault) = Input (listing_fault fault)
sim_fault (sim.Order fault) = Input (order_fault fault)
sim_fault (sim.Boot fault) = no_memory
sim_fault (sim.Report fault) = written_fault fault
