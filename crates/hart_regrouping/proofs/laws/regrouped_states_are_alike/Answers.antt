use Rattle.hart_regrouping.proofs.AlikeLemmas.{regrouped_alike}
use Rattle.hart_regrouping.proofs.laws.regrouped_states_are_alike.Goals as goal

pub returns : goal.returns
returns c image live groups s t r right all one other =
    regrouped_alike image.program live right (λ reg low. all reg low) groups s t r one other
