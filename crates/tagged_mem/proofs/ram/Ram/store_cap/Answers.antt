use Rattle.std.proofs.Common.{◌≡◌, ◌-◌, ◌*◌, length, rules, arith, ◌∙◌}
use Rattle.cheri_model.specs.steps.Memory.{granule_number, store_capability}
use Rattle.tagged_mem.proofs.PackedBytes.{length-with_number}
use Rattle.tagged_mem.proofs.PackedRam.{kept_whole, capability_packed, capability_stored, below_is, granule_aligned, granule_inside}
use Rattle.tagged_mem.proofs.ram.Ram.store_cap.Goals as goal

pub put_bytes-requires : goal.put_bytes-requires
put_bytes-requires c =
    let below = below_is _ _ _ (granule_number c.args.addr) c.self.view_is (granule_inside c.args.self.now c.args.addr 16 c.requires) in
    let aligned = granule_aligned _ c.args.addr c.requires in
    let size : length c.deref_mut.result.now ≡ length c.self.inside.bytes.items = search rules in
    omega arith

pub put_tag-requires : goal.put_tag-requires
put_tag-requires c =
    let below = below_is _ _ _ (granule_number c.args.addr) c.self.view_is (granule_inside c.args.self.now c.args.addr 16 c.requires) in
    let size : length c.deref_mut-2.result.now ≡ length c.self.inside.tags.items = search rules in
    let room = c.self.invariant.room in
    let number = c.granule_number.ensures in
    omega arith

pub invariant_of-self : goal.invariant_of-self
invariant_of-self c =
    let below = below_is _ _ _ (granule_number c.args.addr) c.self.view_is (granule_inside c.args.self.now c.args.addr 16 c.requires) in
    let aligned : c.args.addr - 2147483648 ≡ 16 * granule_number c.args.addr = let zero = granule_aligned c.args.self.now c.args.addr c.requires in omega arith in
    let written = rw (c.deref_mut.ensures.value, c.bits.ensures.value, aligned) at c.put_bytes.ensures in
    let others = rw (c.granule_number.ensures, c.deref_mut-2.ensures.value) at c.put_tag.ensures.others in
    let there = c.tag.ensures.value in
    let marked = rw c.granule_number.ensures at c.put_tag.ensures.there in
    let tag_size = rw c.deref_mut-2.ensures.value at c.put_tag.ensures.size in
    let bytes_whole = kept_whole c.self.inside.bytes.len c.put_bytes.new.bytes c.self.inside.bytes.items (rw written (length-with_number _ _ _ _)) (search rules) in
    let tags_whole = kept_whole c.self.inside.tags.len c.put_tag.new.tags c.self.inside.tags.items tag_size (search rules) in
    rw (bytes_whole, tags_whole, written) (capability_packed _ _ _ _ _ c.self.invariant c.bits.ensures.lawful below tag_size others (marked ∙ there))

pub returns : goal.returns
unfolding store_capability
returns c =
    let below = below_is _ _ _ (granule_number c.args.addr) c.self.view_is (granule_inside c.args.self.now c.args.addr 16 c.requires) in
    let aligned : c.args.addr - 2147483648 ≡ 16 * granule_number c.args.addr = let zero = granule_aligned c.args.self.now c.args.addr c.requires in omega arith in
    let written = rw (c.deref_mut.ensures.value, c.bits.ensures.value, aligned) at c.put_bytes.ensures in
    let others = rw (c.granule_number.ensures, c.deref_mut-2.ensures.value) at c.put_tag.ensures.others in
    let there = c.tag.ensures.value in
    let marked = rw c.granule_number.ensures at c.put_tag.ensures.there in
    let tag_size = rw c.deref_mut-2.ensures.value at c.put_tag.ensures.size in
    let bytes_whole = kept_whole c.self.inside.bytes.len c.put_bytes.new.bytes c.self.inside.bytes.items (rw written (length-with_number _ _ _ _)) (search rules) in
    let tags_whole = kept_whole c.self.inside.tags.len c.put_tag.new.tags c.self.inside.tags.items tag_size (search rules) in
    rw (bytes_whole, tags_whole, written, ← c.self.view_is) (capability_stored _ _ _ _ _ c.self.invariant c.bits.ensures.lawful below others (marked ∙ there))
