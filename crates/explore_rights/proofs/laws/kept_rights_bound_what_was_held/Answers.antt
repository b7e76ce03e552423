use Rattle.explore_rights.proofs.HeldLemmas.{kept_within}
use Rattle.explore_rights.proofs.laws.kept_rights_bound_what_was_held.Goals as goal

pub returns : goal.returns
returns c = kept_within
