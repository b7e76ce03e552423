use Rattle.hart_order.specs.Arrangements.{arranged_state}
use Rattle.hart_order.specs.GroupedTurns.{keeps_number}
use Rattle.hart_order.proofs.GroupedLemmas.{renames}
use Rattle.hart_order.proofs.laws.grouped_states_are_reached.Goals as goal
use Rattle.hart_symmetry.proofs.TurnLemmas.{chosen_complete, chosen_sound}

pub returns-clause-sound : goal.returns-clause-sound
returns-clause-sound c image sight live groups r right hidden reached =
    chosen_sound image sight live (keeps_number groups) (arranged_state groups) (renames groups) right
    (λ before after. hidden before after) r reached

pub returns-clause-complete : goal.returns-clause-complete
returns-clause-complete c image sight live groups order right hidden allowed legal =
    chosen_complete image sight live (keeps_number groups) (arranged_state groups) (renames groups) right
    (λ before after. hidden before after) order allowed legal
