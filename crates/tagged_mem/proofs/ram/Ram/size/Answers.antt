use Rattle.std.proofs.Common.{◌≡◌, length, rules, sym}
use Rattle.tagged_mem.proofs.PackedRam.{length-unpacked, whole_granules}
use Rattle.tagged_mem.proofs.ram.Ram.size.Goals as goal

pub returns : goal.returns
returns c =
    let size : c.len.result ≡ length c.self.inside.bytes.items = search rules in
    rw (size, ← c.self.view_is, length-unpacked _ _) (sym (whole_granules _ c.self.invariant.size))
