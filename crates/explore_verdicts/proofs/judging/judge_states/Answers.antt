use Rattle.std.proofs.lemmas.Result.{IfOk-weaker}
use Rattle.explore_verdicts.proofs.VerdictLemmas.{absent_is, decided_within, found_is}
use Rattle.explore_verdicts.proofs.judging.judge_states.Goals as goal

pub witness_verdict-requires : goal.witness_verdict-requires
witness_verdict-requires c =
    decided_within c.args.kept.now c.args.when c.args.condition.now c.first_deciding.result c.in-Some.number c.first_deciding.ensures c.in-Some.is

pub returns-in-Some : goal.returns-in-Some
returns-in-Some c =
    IfOk-weaker c.witness_verdict.result _ _
    (λ verdict says. found_is c.args.kept.now c.args.when c.args.condition.now c.first_deciding.result c.in-Some.number verdict
    c.first_deciding.ensures c.in-Some.is says) c.witness_verdict.ensures

pub returns-in-None : goal.returns-in-None
returns-in-None c =
    absent_is c.args.kept.now c.args.when c.args.condition.now c.first_deciding.result c.is_complete.result c.absent_verdict.result
    c.requires.seen c.first_deciding.ensures c.in-None.is c.is_complete.ensures.complete c.is_complete.ensures.all c.absent_verdict.ensures
