use Rattle.std.proofs.Common.{◌∙◌}
use Rattle.std.proofs.lemmas.Result.{err_from_is_err_and}
use Rattle.sample_slices.specs.Claimed.{decided_step}
use Rattle.sample_slices.proofs.StepLemmas.{step_refused, step_stops, step_taken, steps_end}
use Rattle.sample_slices.proofs.decided.add_list.Goals as goal

pub loop-item-preserved : goal.loop-item-preserved
loop-item-preserved c = record {
  so_far =
      step_taken (decided_step c.args.again.now c.args.properties.now) c.args.list.now c.loop-item.item-index _ c.item-item.result _ _
      c.loop-item-test.true c.item-item.is _ (rw c.loop-item.invariant.same at c.in_ok-add_decided.ensures.decided)
      c.loop-item.invariant.so_far;
  drawn = c.in_ok-add_decided.ensures.drawn;
  same = c.add_decided.ensures.same ∙ c.loop-item.invariant.same;
}

pub returns-in_err-add_decided-clause-decided : goal.returns-in_err-add_decided-clause-decided
returns-in_err-add_decided-clause-decided c =
    let p = err_from_is_err_and c.from_residual.result c.from_residual.ensures.1 in
    rw (p.1, p.2) (step_stops c.in_err-add_decided.field-0.0 _ _ _ _
    (rw c.loop-item.invariant.same at c.in_err-add_decided.ensures.decided)
    (λ none. step_refused (decided_step c.args.again.now c.args.properties.now) c.args.list.now c.loop-item.item-index _
    c.item-item.result _ _ c.loop-item-test.true c.item-item.is none c.loop-item.invariant.so_far))

pub returns-clause-decided : goal.returns-clause-decided
returns-clause-decided c =
    steps_end (decided_step c.args.again.now c.args.properties.now) c.args.list.now c.loop-item.item-index _ _
    c.loop-item-test.false c.loop-item.invariant.so_far
