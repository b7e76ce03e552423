use Rattle.std.proofs.Common.{◌≡◌, length, rules, arith}
use Rattle.cheri_model.specs.steps.Memory.{granule_number, load_data}
use Rattle.tagged_mem.proofs.PackedRam.{below_is, place_is, data_inside, granule_inside, data_loaded}
use Rattle.tagged_mem.proofs.ram.Ram.load.Goals as goal

pub data_at-requires : goal.data_at-requires
data_at-requires c =
    let below = below_is _ _ _ (granule_number c.args.addr) c.self.view_is (granule_inside _ _ _ c.requires) in
    let inside = data_inside _ c.args.addr c.args.width c.requires in
    let size : length c.as_slice.result.now ≡ length c.self.inside.bytes.items = search rules in
    omega arith

pub returns : goal.returns
unfolding load_data
returns c =
    let below = below_is _ _ _ (granule_number c.args.addr) c.self.view_is (granule_inside _ _ _ c.requires) in
    let inside = data_inside _ c.args.addr c.args.width c.requires in
    rw (c.data_at.ensures, c.as_slice.ensures.value, ← c.self.view_is)
    (rw (← place_is c.args.addr) at (data_loaded _ _ _ _ _ c.self.invariant inside below))
