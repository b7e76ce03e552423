use Rattle.std.proofs.Common.{◌≡◌, ◌≤◌, ◌<◌, ℕ, List, length, map, take, drop, ◌++◌, arith, ap, sym, ◌∙◌, subst}
use Rattle.std.proofs.lemmas.List.{take_at, length-map}
use Rattle.cap_model.specs.values.CapValue.{CapValue}
use Rattle.std.specs.Prelude.{slice_index_or}
use Rattle.std.proofs.Common.{◌+◌, refl}
use Rattle.cheri_model.specs.declared.operation.Op.TheVariants as operation
use Rattle.explore_turns.proofs.TurnLemmas.{same_state}
use Rattle.cheri_model.specs.runs.Machine.{MachineState, state_after_one}
use Rattle.cheri_model.specs.steps.Hart.{HartState}
use Rattle.explore_turns.specs.Orders.{turns_from}
use Rattle.explore_turns.specs.Turns.{rest_of, resting}
use Rattle.explore_turns.proofs.OrderLemmas.{turns_on, turns_end, slice_back}
use Rattle.explore_turns.proofs.turn_orders.push_turns.Goals as goal

pub loop-op-preserved : goal.loop-op-preserved
unfolding rest_of
loop-op-preserved c =
    let a = c.args in
    let n = c.loop-op.op-index in
    let before : MachineState = record { harts = c.loop-op.machine.harts.items; memory = c.loop-op.machine.ram } in
    let on : MachineState = record { harts = c.apply.new.harts; memory = c.apply.new.ram } in
    let op = slice_index_or a.ops.now n (operation.Step 0) in
    let rests = resting a.image.now a.sweeps.now a.sight.now in
    let fits = c.loop-op.invariant.fits in
    let whole : length c.as_mut_slice-harts.result.now ≡ length c.loop-op.machine.harts.items =
    ap (λ (l : List HartState). length l) c.as_mut_slice-harts.ensures.value in
    let applied : length c.apply.new.harts ≡ length c.as_mut_slice-harts.result.now = c.apply.auto.harts in
    let settled : length c.settle.new.harts ≡ length c.apply.new.harts = c.settle.auto.harts in
    let count : c.loop-op.machine.harts.len ≡ length c.settle.new.harts =
    omega (arith, c.loop-op.machine.harts.ok.0, whole, applied, settled) in
    let back = slice_back c.loop-op.machine.harts.len c.settle.new.harts c.loop-op.machine.harts.items count in
    let size : length (take c.loop-op.machine.harts.len (c.settle.new.harts
    ++ drop (length c.settle.new.harts) c.loop-op.machine.harts.items)) ≡ length c.settle.new.harts =
    ap (λ (l : List HartState). length l) back in
    record {
      fits = omega (arith, size, settled, applied, whole, fits);
      order =
          ap (λ (hs : List HartState). c.settle.new.order.items ++ turns_from a.image.now a.sweeps.now a.sight.now
          (record { harts = hs; memory = c.settle.new.ram }) (drop (n + 1) a.ops.now)) back
          ∙ (ap (λ (s : MachineState). c.settle.new.order.items ++ turns_from a.image.now a.sweeps.now a.sight.now s
          (drop (n + 1) a.ops.now)) (same_state c.settle.new.harts (map rests c.apply.new.harts) c.settle.new.ram c.apply.new.ram
          c.in_ok-settle.ensures.harts c.in_ok-settle.ensures.ram)
          ∙ turns_on a.image.now a.sweeps.now a.sight.now c.loop-op.order.items c.settle.new.order.items _ n a.ops.now
          op (operation.Step 0) before on c.push.new.self.items c.loop-op-test.true refl c.loop-op.invariant.order
          c.in_ok-push.ensures.items
          (sym (c.apply.ensures ∙ ap (λ (hs : List HartState). state_after_one a.image.now
          (record { harts = hs; memory = c.loop-op.machine.ram }) op) c.as_mut_slice-harts.ensures.value)) c.in_ok-settle.ensures.order);
    }

pub returns : goal.returns
returns c =
    let a = c.args in
    turns_end a.image.now a.sweeps.now a.sight.now c.loop-op.order.items _ c.loop-op.op-index a.ops.now
    (record { harts = c.loop-op.machine.harts.items; memory = c.loop-op.machine.ram }) c.loop-op-test.false c.loop-op.invariant.order
