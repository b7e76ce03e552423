use Rattle.forgotten_outcomes.proofs.ForgetLemmas.{nothing_seen}
use Rattle.alike_outcomes.proofs.searching.survey_outcomes.Goals as goal

pub survey-requires-clause-hidden : goal.survey-requires-clause-hidden
survey-requires-clause-hidden g c = rw c.requires.sight (nothing_seen c.args.matters.live.now)
