use Rattle.std.specs.Prelude.{slice_index_or}
use Rattle.authorities.proofs.HolderLemmas.{memory_known, memory_part}
use Rattle.authorities.proofs.holders.memory_numbers.Goals as goal

pub memory-requires : goal.memory-requires
memory-requires c =
    rw (c.store.ensures, c.part.ensures) (memory_known c.args.graph.now c.args.row.now c.requires)

pub returns : goal.returns
returns c =
    memory_part c.args.graph.now.store (slice_index_or c.args.row.now 0 0) c.memory.result.now
    (rw (c.store.ensures, c.part.ensures) at c.memory.ensures.row)
