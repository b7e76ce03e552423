use Rattle.std.proofs.Common.{◌≡◌, length, rules, arith, sym}
use Rattle.tagged_mem.proofs.PackedRam.{granule-unpacked, below_is, most_bytes}
use Rattle.tagged_mem.proofs.ram.Ram.granule.Goals as goal

pub overflow_mul-number : goal.overflow_mul-number
overflow_mul-number c =
    let below = below_is _ _ _ c.args.number c.self.view_is c.requires in
    omega (arith, most_bytes (length c.self.inside.bytes.items) c.self.invariant.size)

pub word_at-word-requires : goal.word_at-word-requires
word_at-word-requires c =
    let below = below_is _ _ _ c.args.number c.self.view_is c.requires in
    let size : length c.as_slice.result.now ≡ length c.self.inside.bytes.items = search rules in
    omega arith

pub tag_at-requires : goal.tag_at-requires
tag_at-requires c =
    let below = below_is _ _ _ c.args.number c.self.view_is c.requires in
    let size : length c.as_slice-2.result.now ≡ length c.self.inside.tags.items = search rules in
    let room = c.self.invariant.room in
    omega arith

pub returns-clause-value : goal.returns-clause-value
returns-clause-value c =
    let below = below_is _ _ _ c.args.number c.self.view_is c.requires in
    rw (c.unpacked.ensures.value, c.tag_at.ensures, c.word_at-word.ensures, c.as_slice.ensures.value, c.as_slice-2.ensures.value, ← c.self.view_is)
    (sym (granule-unpacked _ _ _ below))
