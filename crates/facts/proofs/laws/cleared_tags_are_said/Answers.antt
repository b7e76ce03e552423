use Rattle.facts.proofs.Exact.{cleared_exactly}
use Rattle.facts.proofs.laws.cleared_tags_are_said.Goals as goal

pub returns : goal.returns
returns c = cleared_exactly
