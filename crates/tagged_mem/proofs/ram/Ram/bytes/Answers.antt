use Rattle.std.proofs.Common.{◌≡◌, length, rules, sym}
use Rattle.tagged_mem.proofs.PackedRam.{length-unpacked, whole_granules, byte_unpacked}
use Rattle.tagged_mem.proofs.ram.Ram.bytes.Goals as goal

pub returns-clause-size : goal.returns-clause-size
returns-clause-size c =
    let size : length c.as_slice.result.now ≡ length c.self.inside.bytes.items = search rules in
    rw (size, ← c.self.view_is, length-unpacked _ _) (sym (whole_granules _ c.self.invariant.size))

pub returns-clause-each : goal.returns-clause-each
returns-clause-each c = λ i below.
    rw (c.as_slice.ensures.value, ← c.self.view_is) (byte_unpacked _ _ i c.self.invariant (rw c.as_slice.ensures.value at below))
