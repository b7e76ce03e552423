use Rattle.explore_verdicts.proofs.VerdictLemmas.{witness_is}
use Rattle.explore_verdicts.proofs.judging.witness_verdict.Goals as goal

pub returns : goal.returns
returns c = witness_is c.args.kept.now c.args.when c.args.number c.in_ok-order.order _ c.found_verdict.ensures c.in_ok-order.ensures
