use Rattle.hart_symmetry.proofs.TurnLemmas.{chosen_back, chosen_forth}
use Rattle.hart_symmetry.proofs.laws.chosen_walks_are_as_long.Goals as goal

pub returns-clause-back : goal.returns-clause-back
returns-clause-back c image sight live stays choose o r labels chooses fit walk =
    chosen_back image sight live stays choose (λ s. chooses s) o r labels fit walk

pub returns-clause-forth : goal.returns-clause-forth
returns-clause-forth c image sight live stays choose o s turns chooses fit walk =
    chosen_forth image sight live stays choose (λ s. chooses s) o s turns fit walk
