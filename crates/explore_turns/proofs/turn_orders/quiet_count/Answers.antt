use Rattle.std.proofs.Common.{◌+◌, arith, sym, ◌∙◌, subst}
use Rattle.cheri_model.specs.steps.Hart.{HartState}
use Rattle.explore_sights.specs.Sights.{hides}
use Rattle.explore_turns.specs.Orders.{quiet_count}
use Rattle.explore_turns.proofs.RestLemmas.{IsOnWay, IsCounted, on_way, count_on, counted_here, counted_never, was_quiet, was_not_quiet}
use Rattle.explore_turns.proofs.turn_orders.quiet_count.Goals as goal

pub returns-in_default-clause-value : goal.returns-in_default-clause-value
unfolding quiet_count
returns-in_default-clause-value c =
    let a = c.args in
    let seen = hides a.sight.now in
    let stays = was_not_quiet a.program.now a.sweeps.now seen c.loop-count.at (sym c.quiet_step.ensures.value ∙ c.in_default.is) in
    sym (counted_here a.program.now a.sweeps.now seen 1000 c.loop-count.count a.hart.now c.loop-count.at
    c.loop-count.invariant.on_way c.loop-count.invariant.counted stays)

pub loop-count-preserved : goal.loop-count-preserved
loop-count-preserved c =
    let a = c.args in
    let seen = hides a.sight.now in
    let below = c.loop-count-test.true in
    let moves = was_quiet a.program.now a.sweeps.now seen c.loop-count.at c.in-Some.next
    (sym c.quiet_step.ensures.value ∙ c.in-Some.is) in
    let on = on_way a.program.now a.sweeps.now seen 1000 c.loop-count.count a.hart.now c.loop-count.at
    c.loop-count.invariant.on_way (omega (arith, below)) moves.0 in
    let more = count_on a.program.now a.sweeps.now seen 1000 c.loop-count.count a.hart.now c.loop-count.at
    c.loop-count.invariant.counted (omega (arith, below)) moves.0 in
    record {
      same_ram = c.quiet_step.ensures.ram ∙ c.loop-count.invariant.same_ram;
      on_way = subst (λ (x : HartState). IsOnWay a.program.now a.sweeps.now seen 1000 (c.loop-count.count + 1) a.hart.now x)
          moves.1 on;
      counted = subst (λ (x : HartState). IsCounted a.program.now a.sweeps.now seen 1000 (c.loop-count.count + 1) a.hart.now x)
          moves.1 more;
    }

pub returns-in-Some-quiet_step-clause-value : goal.returns-in-Some-quiet_step-clause-value
unfolding quiet_count
returns-in-Some-quiet_step-clause-value c =
    let a = c.args in
    let seen = hides a.sight.now in
    let past = c.loop-count-test.false in
    let moves = was_quiet a.program.now a.sweeps.now seen c.loop-count.at c.in-Some-quiet_step.field-0
    (sym c.quiet_step-2.ensures.value ∙ c.in-Some-quiet_step.is) in
    sym (counted_never a.program.now a.sweeps.now seen 1000 c.loop-count.count a.hart.now c.loop-count.at
    c.loop-count.invariant.on_way (omega (arith, past)) moves.0)

pub returns-in-None-clause-value : goal.returns-in-None-clause-value
unfolding quiet_count
returns-in-None-clause-value c =
    let a = c.args in
    let seen = hides a.sight.now in
    let past = c.loop-count-test.false in
    let end = c.loop-count.auto.count-end in
    let stays = was_not_quiet a.program.now a.sweeps.now seen c.loop-count.at (sym c.quiet_step-2.ensures.value ∙ c.in-None.is) in
    let all = counted_here a.program.now a.sweeps.now seen 1000 c.loop-count.count a.hart.now c.loop-count.at
    c.loop-count.invariant.on_way c.loop-count.invariant.counted stays in
    omega (arith, all, past, end)
