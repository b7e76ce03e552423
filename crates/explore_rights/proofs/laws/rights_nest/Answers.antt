use Rattle.explore_rights.proofs.RightsLemmas.{within_self, within_trans}
use Rattle.explore_rights.proofs.laws.rights_nest.Goals as goal

pub returns-clause-itself : goal.returns-clause-itself
returns-clause-itself c = within_self

pub returns-clause-through : goal.returns-clause-through
returns-clause-through c = within_trans
