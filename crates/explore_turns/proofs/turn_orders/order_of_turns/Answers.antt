use Rattle.std.proofs.Common.{◌≡◌, ℕ, List, length, map, take, drop, ◌++◌, arith, ap, sym, ◌∙◌}
use Rattle.cheri_model.specs.declared.operation.Op.{Op}
use Rattle.cheri_model.specs.runs.Machine.{MachineState, opening_state}
use Rattle.cheri_model.specs.steps.Hart.{HartState}
use Rattle.explore_turns.specs.Orders.{order_of_turns, quiet_order, turns_from}
use Rattle.explore_turns.specs.Turns.{rest_of, rest_by, start_by, resting}
use Rattle.explore_turns.proofs.OrderLemmas.{slice_back}
use Rattle.explore_turns.proofs.TurnLemmas.{opening_count, same_state}
use Rattle.explore_turns.proofs.turn_orders.order_of_turns.Goals as goal

pub settle-requires : goal.settle-requires
settle-requires c =
    ap (λ (l : List HartState). length l) (c.as_mut_slice-harts.ensures.value
    ∙ ap (λ (s : MachineState). s.harts) (sym c.in_ok-machine.ensures)) ∙ opening_count c.args.image.now

pub push_turns-requires-clause-harts : goal.push_turns-requires-clause-harts
push_turns-requires-clause-harts c =
    let whole : length c.as_mut_slice-harts.result.now ≡ length c.in_ok-machine.machine.harts.items =
    ap (λ (l : List HartState). length l) c.as_mut_slice-harts.ensures.value in
    let settled : length c.settle.new.harts ≡ length c.as_mut_slice-harts.result.now = c.settle.auto.harts in
    let count : c.in_ok-machine.machine.harts.len ≡ length c.settle.new.harts =
    omega (arith, c.in_ok-machine.machine.harts.ok.0, whole, settled) in
    let back = slice_back c.in_ok-machine.machine.harts.len c.settle.new.harts c.in_ok-machine.machine.harts.items count in
    ap (λ (l : List HartState). length l) back ∙ (settled ∙ (ap (λ (l : List HartState). length l) (c.as_mut_slice-harts.ensures.value
    ∙ ap (λ (s : MachineState). s.harts) (sym c.in_ok-machine.ensures)) ∙ opening_count c.args.image.now))

pub returns : goal.returns
unfolding order_of_turns rest_of
returns c =
    let a = c.args in
    let o = opening_state a.image.now in
    let rests = resting a.image.now a.sweeps.now a.sight.now in
    let harts_is : c.as_mut_slice-harts.result.now ≡ o.harts =
    c.as_mut_slice-harts.ensures.value ∙ ap (λ (s : MachineState). s.harts) (sym c.in_ok-machine.ensures) in
    let whole : length c.as_mut_slice-harts.result.now ≡ length c.in_ok-machine.machine.harts.items =
    ap (λ (l : List HartState). length l) c.as_mut_slice-harts.ensures.value in
    let settled : length c.settle.new.harts ≡ length c.as_mut_slice-harts.result.now = c.settle.auto.harts in
    let count : c.in_ok-machine.machine.harts.len ≡ length c.settle.new.harts =
    omega (arith, c.in_ok-machine.machine.harts.ok.0, whole, settled) in
    let back = slice_back c.in_ok-machine.machine.harts.len c.settle.new.harts c.in_ok-machine.machine.harts.items count in
    let harts_end : take c.in_ok-machine.machine.harts.len (c.settle.new.harts ++ drop (length c.settle.new.harts)
    c.in_ok-machine.machine.harts.items) ≡ map rests o.harts =
    back ∙ (c.in_ok-settle.ensures.harts ∙ ap (λ (l : List HartState). map rests l) harts_is) in
    let ram_end : c.settle.new.ram ≡ o.memory =
    c.in_ok-settle.ensures.ram ∙ ap (λ (s : MachineState). s.memory) (sym c.in_ok-machine.ensures) in
    let first : c.settle.new.order.items ≡ quiet_order a.image.now a.sweeps.now a.sight.now 0 o.harts =
    c.in_ok-settle.ensures.order
    ∙ (ap (λ (l : List Op). l ++ quiet_order a.image.now a.sweeps.now a.sight.now 0 c.as_mut_slice-harts.result.now) c.new-order.ensures.items
    ∙ ap (λ (hs : List HartState). quiet_order a.image.now a.sweeps.now a.sight.now 0 hs) harts_is) in
    c.in_ok-push_turns.ensures
    ∙ (ap (λ (l : List Op). l ++ turns_from a.image.now a.sweeps.now a.sight.now
    (record {
      harts = take c.in_ok-machine.machine.harts.len (c.settle.new.harts ++ drop (length c.settle.new.harts)
          c.in_ok-machine.machine.harts.items);
      memory = c.settle.new.ram;
    }) a.ops.now) first
    ∙ ap (λ (s : MachineState). quiet_order a.image.now a.sweeps.now a.sight.now 0 o.harts
    ++ turns_from a.image.now a.sweeps.now a.sight.now s a.ops.now)
    (same_state _ (map rests o.harts) c.settle.new.ram o.memory harts_end ram_end))
