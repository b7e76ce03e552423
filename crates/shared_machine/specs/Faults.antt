-- The numbers of the refusals of opening and of watching.
use Rattle.std.specs.Prelude.{ℕ}
use Rattle.shared_machine.specs.declared.faults.OpenFault.{OpenFault}
use Rattle.shared_machine.specs.declared.faults.OpenFault.TheVariants as opening
use Rattle.shared_machine.specs.declared.faults.WatchFault.{WatchFault}
use Rattle.shared_machine.specs.declared.faults.WatchFault.TheVariants as watching

abbrev pub open_fault_number : OpenFault → ℕ
open_fault_number opening.NoMemory = 1

abbrev pub watch_fault_number : WatchFault → ℕ
watch_fault_number watching.NoPlace = 1
watch_fault_number watching.NoMemory = 2
