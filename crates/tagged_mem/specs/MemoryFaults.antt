-- The numbers of the reasons why a memory could not be made.
use Rattle.std.specs.Prelude.{ℕ}
use Rattle.tagged_mem.specs.declared.fault.MemFault.{MemFault}
use Rattle.tagged_mem.specs.declared.fault.MemFault.TheVariants.{Size, NoMemory}

abbrev pub memory_fault_number : MemFault → ℕ
memory_fault_number Size = 1
memory_fault_number NoMemory = 2
