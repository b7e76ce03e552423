use Rattle.sample_tallies.proofs.TallyLemmas.{add_assoc}
use Rattle.sample_tallies.proofs.laws.sums_are_associative.Goals as goal

pub returns : goal.returns
returns c = λ x y z. add_assoc x y z
