use Rattle.std.proofs.Common.{◌≡◌, ◌<◌, arith}
use Rattle.std.specs.Prelude.{slice_index}
use Rattle.interner.proofs.SlotLemmas.{AreRegrown, regrown_put, regrown_open}
use Rattle.interner.proofs.growth.regrown.Goals as goal
use Rattle.interner.proofs.growth.regrown.Goals.{then-slot-ne0+in_ok-put, else-slot-ne0}

pub loop-slot-preserved : goal.loop-slot-preserved
loop-slot-preserved c =
    let k = c.loop-slot.slot-index in
    let before : AreRegrown c.args.slots.now c.loop-slot.new.items c.args.homes k = record {
      room = c.loop-slot.invariant.room;
      old = c.loop-slot.invariant.old;
      placed = c.loop-slot.invariant.placed;
    } in
    elim c.if-slot-ne0.branch [
      | then-slot-ne0+in_ok-put w ↦
          let some : 0 < slice_index c.args.slots.now k = omega arith in
          let put = w.in_ok-put.ensures.placed in
          let r = regrown_put c.args.slots.now c.loop-slot.new.items w.put.new.slots.items c.args.homes k put.0 before
          some put.1 put.2 put.3 in
          rw w.new-is (record { room = r.room; old = r.old; placed = r.placed })
      | else-slot-ne0 w ↦
          let free : slice_index c.args.slots.now k ≡ 0 = omega arith in
          let r = regrown_open c.args.slots.now c.loop-slot.new.items c.args.homes k before free in
          rw w.new-is (record { room = r.room; old = r.old; placed = r.placed })
    ]
