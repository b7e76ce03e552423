use Rattle.std.proofs.Common.{◌≡◌, length, rules, arith}
use Rattle.cheri_model.specs.steps.Memory.{granule_number, store_data}
use Rattle.tagged_mem.proofs.PackedBytes.{length-with_number}
use Rattle.tagged_mem.proofs.PackedRam.{place_is, kept_whole, data_packed, data_stored, below_is, data_inside, granule_inside}
use Rattle.tagged_mem.proofs.ram.Ram.store.Goals as goal

pub put_bytes-requires : goal.put_bytes-requires
put_bytes-requires c =
    let below = below_is _ _ _ (granule_number c.args.addr) c.self.view_is (granule_inside _ _ _ c.requires) in
    let inside = data_inside _ c.args.addr c.args.width c.requires in
    let size : length c.deref_mut.result.now ≡ length c.self.inside.bytes.items = search rules in
    let count = c.bytes-count.ensures in
    omega arith

pub put_tag-requires : goal.put_tag-requires
put_tag-requires c =
    let below = below_is _ _ _ (granule_number c.args.addr) c.self.view_is (granule_inside _ _ _ c.requires) in
    let size : length c.deref_mut-2.result.now ≡ length c.self.inside.tags.items = search rules in
    let room = c.self.invariant.room in
    let number = c.granule_number.ensures in
    omega arith

pub invariant_of-self : goal.invariant_of-self
invariant_of-self c =
    let below = below_is _ _ _ (granule_number c.args.addr) c.self.view_is (granule_inside _ _ _ c.requires) in
    let inside = data_inside _ c.args.addr c.args.width c.requires in
    let written = rw (c.deref_mut.ensures.value, c.bytes-count.ensures, c.from.ensures, place_is c.args.addr) at c.put_bytes.ensures in
    let others = rw (c.granule_number.ensures, c.deref_mut-2.ensures.value) at c.put_tag.ensures.others in
    let there = rw c.granule_number.ensures at c.put_tag.ensures.there in
    let tag_size = rw c.deref_mut-2.ensures.value at c.put_tag.ensures.size in
    let bytes_whole = kept_whole c.self.inside.bytes.len c.put_bytes.new.bytes c.self.inside.bytes.items (rw written (length-with_number _ _ _ _)) (search rules) in
    let tags_whole = kept_whole c.self.inside.tags.len c.put_tag.new.tags c.self.inside.tags.items tag_size (search rules) in
    rw (bytes_whole, tags_whole, written) (data_packed _ _ _ _ _ _ _ c.self.invariant inside tag_size others there)

pub returns : goal.returns
unfolding store_data
returns c =
    let below = below_is _ _ _ (granule_number c.args.addr) c.self.view_is (granule_inside _ _ _ c.requires) in
    let inside = data_inside _ c.args.addr c.args.width c.requires in
    let written = rw (c.deref_mut.ensures.value, c.bytes-count.ensures, c.from.ensures, place_is c.args.addr) at c.put_bytes.ensures in
    let others = rw (c.granule_number.ensures, c.deref_mut-2.ensures.value) at c.put_tag.ensures.others in
    let there = rw c.granule_number.ensures at c.put_tag.ensures.there in
    let tag_size = rw c.deref_mut-2.ensures.value at c.put_tag.ensures.size in
    let bytes_whole = kept_whole c.self.inside.bytes.len c.put_bytes.new.bytes c.self.inside.bytes.items (rw written (length-with_number _ _ _ _)) (search rules) in
    let tags_whole = kept_whole c.self.inside.tags.len c.put_tag.new.tags c.self.inside.tags.items tag_size (search rules) in
    rw (bytes_whole, tags_whole, written, ← c.self.view_is) (data_stored _ _ _ _ _ _ _ c.self.invariant inside below others there)
