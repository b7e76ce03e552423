use Rattle.hart_symmetry.proofs.TurnLemmas.{chosen_own}
use Rattle.hart_symmetry.proofs.laws.chosen_walks_are_own_walks.Goals as goal

pub returns : goal.returns
returns c image sight live stays choose from o r labels chooses fit walk =
    chosen_own image sight live stays choose from (λ s. chooses s) o r labels fit walk
