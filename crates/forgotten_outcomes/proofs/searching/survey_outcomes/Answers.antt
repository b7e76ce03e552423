use Rattle.std.proofs.Common.{subst, sym}
use Rattle.hart_order.specs.Arrangements.{IsUngrouped}
use Rattle.forgotten_outcomes.proofs.ForgetLemmas.{nothing_seen}
use Rattle.forgotten_outcomes.proofs.searching.survey_outcomes.Goals as goal

pub survey-requires-clause-hidden : goal.survey-requires-clause-hidden
survey-requires-clause-hidden g c = rw c.requires.sight (nothing_seen c.args.matters.live.now)

pub endless_of-requires : goal.endless_of-requires
endless_of-requires g c = subst IsUngrouped (sym c.in_ok-survey.ensures.groups_are) c.requires.ungrouped
