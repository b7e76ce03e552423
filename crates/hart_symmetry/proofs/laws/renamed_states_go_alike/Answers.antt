use Rattle.hart_symmetry.proofs.StepLemmas.{steps_alike, turns_alike, forgotten_turns_alike}
use Rattle.hart_symmetry.proofs.laws.renamed_states_go_alike.Goals as goal

pub returns-clause-steps : goal.returns-clause-steps
returns-clause-steps c image sweeps stays = steps_alike image stays sweeps

pub returns-clause-turns : goal.returns-clause-turns
returns-clause-turns c image sweeps sight stays = turns_alike image stays sweeps sight

pub returns-clause-forgotten : goal.returns-clause-forgotten
returns-clause-forgotten c image sight live stays = forgotten_turns_alike image stays sight live
