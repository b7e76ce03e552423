use Rattle.explore_sights.specs.Sights.{hides}
use Rattle.explore_turns.specs.declared.quiet.TheConstants.{MAX_QUIET_STEPS}
use Rattle.explore_turns.proofs.TurnLemmas.{rest_reached, stopped_rests}
use Rattle.explore_turns.proofs.laws.rests_are_reached_by_turns.Goals as goal

pub returns-clause-complete : goal.returns-clause-complete
returns-clause-complete c image sweeps sight s reached = rest_reached image sweeps (hides sight) MAX_QUIET_STEPS s reached

pub returns-clause-stopped : goal.returns-clause-stopped
returns-clause-stopped c image sweeps sight s stopped =
    stopped_rests image sweeps (hides sight) MAX_QUIET_STEPS s (λ l h at. stopped l h at)
