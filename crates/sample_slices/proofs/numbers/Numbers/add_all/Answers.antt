use Rattle.std.proofs.lemmas.Result.{err_from_is_err_and}
use Rattle.sample_slices.specs.Numbers.{span_step}
use Rattle.sample_slices.proofs.StepLemmas.{step_refused, step_stops, step_taken, steps_end}
use Rattle.sample_slices.proofs.numbers.Numbers.add_all.Goals as goal

pub loop-item-preserved : goal.loop-item-preserved
loop-item-preserved c =
    step_taken span_step c.args.list.now c.loop-item.item-index _ c.item-item.result _ _ c.loop-item-test.true c.item-item.is _
    c.in_ok-add.ensures c.loop-item.invariant

pub returns-in_err-add : goal.returns-in_err-add
returns-in_err-add c =
    let p = err_from_is_err_and c.from_residual.result c.from_residual.ensures.1 in
    rw (p.1, p.2) (step_stops c.in_err-add.field-0.0 _ _ _ _ c.in_err-add.ensures
    (λ none. step_refused span_step c.args.list.now c.loop-item.item-index _ c.item-item.result _ _ c.loop-item-test.true c.item-item.is
    none c.loop-item.invariant))

pub returns : goal.returns
returns c = steps_end span_step c.args.list.now c.loop-item.item-index _ _ c.loop-item-test.false c.loop-item.invariant
