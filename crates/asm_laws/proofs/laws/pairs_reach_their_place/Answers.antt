use Rattle.asm_laws.proofs.PairLemmas.{cllc_leaves, la_leaves}
use Rattle.asm_laws.proofs.laws.pairs_reach_their_place.Goals as goal

pub returns-clause-cllc : goal.returns-clause-cllc
returns-clause-cllc c = cllc_leaves

pub returns-clause-la : goal.returns-clause-la
returns-clause-la c = la_leaves
