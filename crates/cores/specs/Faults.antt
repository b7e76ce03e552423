-- The numbers, names and texts of the refusals of booting and of operations.
use Rattle.std.specs.Prelude.{ℕ, List, ◌++◌, codes, decimal}
use Rattle.cores.specs.declared.faults.BootFault.{BootFault}
use Rattle.cores.specs.declared.faults.BootFault.TheVariants as boot
use Rattle.cores.specs.declared.faults.StepFault.{StepFault}
use Rattle.cores.specs.declared.faults.StepFault.TheVariants as step

abbrev pub boot_fault_number : BootFault → ℕ
boot_fault_number boot.Limit = 1
boot_fault_number boot.NoMemory = 2

abbrev pub boot_fault_name : BootFault → List ℕ
boot_fault_name boot.Limit = codes "Limit"
boot_fault_name boot.NoMemory = codes "NoMemory"

abbrev pub boot_fault_text : BootFault → List ℕ
boot_fault_text fault = decimal (boot_fault_number fault) ++ (codes " " ++ boot_fault_name fault)

abbrev pub step_fault_number : StepFault → ℕ
step_fault_number step.NoSuchHart = 1
step_fault_number step.TraceFull = 2
step_fault_number step.HartStopped = 3
step_fault_number step.NoMemory = 4
step_fault_number step.BadRange = 5

abbrev pub step_fault_name : StepFault → List ℕ
step_fault_name step.NoSuchHart = codes "NoSuchHart"
step_fault_name step.TraceFull = codes "TraceFull"
step_fault_name step.HartStopped = codes "HartStopped"
step_fault_name step.NoMemory = codes "NoMemory"
step_fault_name step.BadRange = codes "BadRange"

abbrev pub step_fault_text : StepFault → List ℕ
step_fault_text fault = decimal (step_fault_number fault) ++ (codes " " ++ step_fault_name fault)
