-- The numbers of the refusals of a race, and their texts.
use Rattle.std.specs.Prelude.{ℕ, List, codes}
use Rattle.cores.specs.Faults.{boot_fault_text}
use Rattle.harts.specs.declared.faults.RunFault.{RunFault}
use Rattle.harts.specs.declared.faults.RunFault.TheVariants.{Boot, Spawn, NoMemory, ImageDiffers}

abbrev pub run_fault_number : RunFault → ℕ
run_fault_number (Boot fault) = 1
run_fault_number Spawn = 2
run_fault_number NoMemory = 3
run_fault_number ImageDiffers = 4

abbrev pub run_fault_text : RunFault → List ℕ
run_fault_text (Boot fault) = boot_fault_text fault
run_fault_text Spawn = codes "cannot start a worker"
run_fault_text NoMemory = codes "memory"
run_fault_text ImageDiffers = codes "image differs"
