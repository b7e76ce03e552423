-- what was added is this memory, or the opening one
use Rattle.std.proofs.Common.{◌+◌, ◌-◌, length}
use Rattle.sample_tallies.specs.Known.{AddsMemory}
use Rattle.sample_tallies.proofs.numbering.keep_memory.Given as goal

abbrev pub invariant-loop-alloc : goal.invariant-loop-alloc
invariant-loop-alloc l = AddsMemory l.opening l.fn.memories.items l.known l.memories.items

abbrev pub decreases-loop-alloc : goal.decreases-loop-alloc
decreases-loop-alloc l = l.place + 1 - length l.memories.items
