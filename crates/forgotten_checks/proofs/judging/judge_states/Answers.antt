use Rattle.forgotten_checks.proofs.VerdictLemmas.{absent_is, decided_within, met_is}
use Rattle.forgotten_checks.proofs.judging.judge_states.Goals as goal

pub order_to-requires : goal.order_to-requires
order_to-requires c = record {
  there =
      decided_within c.args.survey.now c.len-count.ensures.survey c.args.when c.args.condition.now c.requires.asked c.requires.named
      c.first_passing.result c.first_passing.ensures c.in-Some.number c.in-Some.is;
}

pub returns-in_ok-order-in-Some : goal.returns-in_ok-order-in-Some
returns-in_ok-order-in-Some c =
    met_is c.args.survey.now c.len-count.ensures.survey c.args.when c.args.condition.now c.requires.asked c.requires.named
    c.first_passing.result c.first_passing.ensures c.in-Some.number c.in_ok-order-in-Some.order _ c.in-Some.is c.in_ok-order-in-Some.ensures
    c.found_verdict.ensures

pub returns-in-None : goal.returns-in-None
returns-in-None c =
    absent_is c.args.survey.now c.len-count.ensures.survey c.args.when c.args.condition.now c.requires.asked c.requires.named
    c.first_passing.result c.first_passing.ensures _ _ c.requires.seen c.in-None.is c.is_complete.ensures c.absent_verdict.ensures
