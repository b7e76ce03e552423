use Rattle.std.proofs.lemmas.Result.{err_from_is_err_and}
use Rattle.sample_slices.specs.Drawn.{range_step}
use Rattle.sample_slices.proofs.StepLemmas.{step_refused, step_stops, step_taken, steps_end}
use Rattle.sample_slices.proofs.drawn.add_ranges.Goals as goal

pub loop-item-preserved : goal.loop-item-preserved
loop-item-preserved c =
    step_taken range_step c.args.list.now c.loop-item.item-index _ c.item-item.result _ _ c.loop-item-test.true c.item-item.is _
    c.in_ok-add_range.ensures c.loop-item.invariant

pub returns-in_err-add_range : goal.returns-in_err-add_range
returns-in_err-add_range c =
    let p = err_from_is_err_and c.from_residual.result c.from_residual.ensures.1 in
    rw (p.1, p.2) (step_stops c.in_err-add_range.field-0.0 _ _ _ _ c.in_err-add_range.ensures
    (λ none. step_refused range_step c.args.list.now c.loop-item.item-index _ c.item-item.result _ _ c.loop-item-test.true c.item-item.is
    none c.loop-item.invariant))

pub returns : goal.returns
returns c = steps_end range_step c.args.list.now c.loop-item.item-index _ _ c.loop-item-test.false c.loop-item.invariant
