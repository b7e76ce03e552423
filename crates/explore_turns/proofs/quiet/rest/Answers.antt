use Rattle.std.proofs.Common.{◌+◌, arith, sym, ◌∙◌, subst}
use Rattle.cheri_model.specs.steps.Hart.{HartState}
use Rattle.explore_sights.specs.Sights.{hides}
use Rattle.explore_turns.proofs.RestLemmas.{IsOnWay, on_way, rest_here, rest_never, was_quiet, was_not_quiet}
use Rattle.explore_turns.proofs.quiet.rest.Goals as goal

pub returns-in_default-clause-ram : goal.returns-in_default-clause-ram
returns-in_default-clause-ram c = c.in_default.ensures.ram ∙ c.loop.invariant.same_ram

pub returns-in_default-clause-value : goal.returns-in_default-clause-value
returns-in_default-clause-value c =
    let a = c.args in
    let seen = hides a.sight.now in
    let stays = was_not_quiet a.program.now a.sweeps.now seen c.loop.at (sym c.quiet_step.ensures.value ∙ c.in_default.is) in
    sym (rest_here a.program.now a.sweeps.now seen 1000 c.loop.counter a.hart.now c.loop.at c.loop.invariant.on_way stays)

pub loop-preserved : goal.loop-preserved
loop-preserved c =
    let a = c.args in
    let seen = hides a.sight.now in
    let below = c.loop-test.true in
    let moves = was_quiet a.program.now a.sweeps.now seen c.loop.at c.in-Some.next (sym c.quiet_step.ensures.value ∙ c.in-Some.is) in
    let on = on_way a.program.now a.sweeps.now seen 1000 c.loop.counter a.hart.now c.loop.at c.loop.invariant.on_way
    (omega (arith, below)) moves.0 in
    record {
      same_ram = c.quiet_step.ensures.ram ∙ c.loop.invariant.same_ram;
      on_way = subst (λ (x : HartState). IsOnWay a.program.now a.sweeps.now seen 1000 (c.loop.counter + 1) a.hart.now x)
          moves.1 on;
    }

pub returns-in-Some-quiet_step-clause-value : goal.returns-in-Some-quiet_step-clause-value
returns-in-Some-quiet_step-clause-value c =
    let a = c.args in
    let seen = hides a.sight.now in
    let past = c.loop-test.false in
    let moves = was_quiet a.program.now a.sweeps.now seen c.loop.at c.in-Some-quiet_step.field-0
    (sym c.quiet_step-2.ensures.value ∙ c.in-Some-quiet_step.is) in
    sym (rest_never a.program.now a.sweeps.now seen 1000 c.loop.counter a.hart.now c.loop.at c.loop.invariant.on_way
    (omega (arith, past)) moves.0)

pub returns-in-None-clause-value : goal.returns-in-None-clause-value
returns-in-None-clause-value c =
    let a = c.args in
    let seen = hides a.sight.now in
    let stays = was_not_quiet a.program.now a.sweeps.now seen c.loop.at (sym c.quiet_step-2.ensures.value ∙ c.in-None.is) in
    sym (rest_here a.program.now a.sweeps.now seen 1000 c.loop.counter a.hart.now c.loop.at c.loop.invariant.on_way stays)
