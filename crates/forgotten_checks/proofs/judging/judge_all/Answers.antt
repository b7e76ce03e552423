use Rattle.explore_verdicts.proofs.VerdictLemmas.{verdict_step}
use Rattle.explore_verdicts.proofs.WatchLemmas.{claim_at}
use Rattle.forgotten_checks.specs.StateVerdicts.{IsForgottenStateVerdict}
use Rattle.forgotten_checks.proofs.AskedLemmas.{claim_asked}
use Rattle.forgotten_checks.proofs.NamedLemmas.{claim_named}
use Rattle.hart_order.specs.GroupedTurns.{keeps_number}
use Rattle.forgotten_checks.proofs.judging.judge_all.Goals as goal

pub judge_property-requires : goal.judge_property-requires
judge_property-requires c = record {
  seen =
      rw c.property-item.is
      (claim_at c.args.survey.now.sight c.args.properties.now c.loop-property.property-index _ c.requires.seen c.loop-property-test.true);
  asked =
      rw c.property-item.is
      (claim_asked c.args.survey.now.live.asked c.args.properties.now c.loop-property.property-index _ c.requires.asked
      c.loop-property-test.true);
  named =
      rw c.property-item.is
      (claim_named (keeps_number c.args.survey.now.groups) c.args.properties.now c.loop-property.property-index _ c.requires.named
      c.loop-property-test.true);
}

pub loop-property-preserved : goal.loop-property-preserved
loop-property-preserved c =
    verdict_step (IsForgottenStateVerdict c.args.survey.now) c.args.endless.now c.args.properties.now c.loop-property.property-index _
    c.loop-property.verdicts.items _ c.in_ok-judge_property.field-0 c.loop-property-test.true c.in_ok-push.ensures.items
    c.loop-property.invariant (rw c.property-item.is at c.in_ok-judge_property.ensures)
