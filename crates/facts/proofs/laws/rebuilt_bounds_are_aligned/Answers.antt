use Rattle.facts.proofs.Aligned.{rebuilt_aligned}
use Rattle.facts.proofs.laws.rebuilt_bounds_are_aligned.Goals as goal

pub returns : goal.returns
returns c = rebuilt_aligned
