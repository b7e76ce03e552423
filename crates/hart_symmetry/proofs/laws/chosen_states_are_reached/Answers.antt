use Rattle.hart_symmetry.proofs.TurnLemmas.{chosen_sound, chosen_complete, chosen_passes}
use Rattle.hart_symmetry.proofs.laws.chosen_states_are_reached.Goals as goal

pub returns-clause-sound : goal.returns-clause-sound
returns-clause-sound c image sight live stays choose r right hidden chooses reached =
    chosen_sound image sight live stays choose (λ s. chooses s) right (λ before after. hidden before after) r reached

pub returns-clause-complete : goal.returns-clause-complete
returns-clause-complete c image sight live stays choose order right hidden chooses allowed legal =
    chosen_complete image sight live stays choose (λ s. chooses s) right (λ before after. hidden before after) order allowed legal

pub returns-clause-passes : goal.returns-clause-passes
returns-clause-passes c image sight live stays passing keeps same renamed s r holds alike =
    chosen_passes image sight live stays passing (λ t l before after there seen so. keeps t l before after there seen so)
    (λ t. same t) (λ one other r. renamed one other r) s r holds alike
