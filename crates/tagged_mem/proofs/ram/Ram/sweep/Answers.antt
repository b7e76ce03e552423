use Rattle.std.proofs.Common.{rules}
use Rattle.tagged_mem.proofs.PackedRam.{kept_whole}
use Rattle.tagged_mem.proofs.SweptRam.{packed_swept, memory_swept, all_cleared}
use Rattle.tagged_mem.proofs.ram.Ram.sweep.Goals as goal

pub invariant_of-self : goal.invariant_of-self
invariant_of-self c =
    let swept = rw (c.as_slice.ensures.value, c.deref_mut.ensures.value) at c.sweep_tags.ensures.swept in
    let whole = kept_whole c.self.inside.tags.len c.sweep_tags.new.tags c.self.inside.tags.items swept.size (search rules) in
    rw whole (packed_swept _ _ _ _ _ _ _ c.self.invariant swept)

pub returns-clause-memory : goal.returns-clause-memory
returns-clause-memory c =
    let swept = rw (c.as_slice.ensures.value, c.deref_mut.ensures.value) at c.sweep_tags.ensures.swept in
    let whole = kept_whole c.self.inside.tags.len c.sweep_tags.new.tags c.self.inside.tags.items swept.size (search rules) in
    rw (whole, ← c.self.view_is) (memory_swept _ _ _ _ _ c.self.invariant swept)

pub returns-clause-cleared : goal.returns-clause-cleared
returns-clause-cleared c =
    let cleared = rw (c.as_slice.ensures.value, c.deref_mut.ensures.value) at c.sweep_tags.ensures.cleared in
    rw (cleared, ← c.self.view_is) (all_cleared _ _ _ _)
