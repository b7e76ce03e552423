use Rattle.std.proofs.Common.{◌≡◌, length, rules, sym}
use Rattle.tagged_mem.proofs.PackedRam.{length-unpacked, IsMemory-unpacked}
use Rattle.tagged_mem.proofs.ram.Ram.granule_count.Goals as goal

pub returns-clause-count : goal.returns-clause-count
returns-clause-count c =
    let size : c.len.result ≡ length c.self.inside.bytes.items = search rules in
    rw (size, ← c.self.view_is) (sym (length-unpacked _ _))

pub returns-clause-memory : goal.returns-clause-memory
returns-clause-memory c = rw (← c.self.view_is) (IsMemory-unpacked _ _ c.self.invariant)
