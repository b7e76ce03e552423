use Rattle.outcome_texts.proofs.ToldLemmas.{outcome_step}
use Rattle.outcome_texts.proofs.told.outcomes_told.Goals as goal

pub loop-state-preserved : goal.loop-state-preserved
loop-state-preserved c =
    outcome_step c.args.kept.now c.args.numbers.now c.loop-state.state-index _ c.loop-state.told.items _ c.in_ok-outcome_told.field-0
    c.loop-state-test.true c.in_ok-push.ensures.items c.loop-state.invariant c.in_ok-outcome_told.ensures
