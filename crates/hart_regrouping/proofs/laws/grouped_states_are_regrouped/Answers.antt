use Rattle.hart_regrouping.proofs.RegroupLemmas.{regrouped_reached}
use Rattle.hart_regrouping.proofs.laws.grouped_states_are_regrouped.Goals as goal

pub returns : goal.returns
returns c image sight live groups order right hidden allowed legal =
    regrouped_reached groups image sight live right (λ before after. hidden before after) order allowed legal
