use Rattle.outcome_texts.proofs.ListedLemmas.{outcome_whole}
use Rattle.outcome_texts.proofs.listed.write_outcome.Goals as goal

pub returns : goal.returns
returns c = rw (outcome_whole c.args.format c.args.state.now c.args.number c.args.outcome.now) c.write_ordered.ensures
