use Rattle.own_granules.proofs.SearchLemmas.{turns_kept, rests_found}
use Rattle.own_granules.proofs.laws.owned_turns_reach_rests.Goals as goal

pub returns-clause-sound : goal.returns-clause-sound
returns-clause-sound c image sweeps shared owner hides most r is owned =
    turns_kept image sweeps shared owner hides most is owned r

pub returns-clause-complete : goal.returns-clause-complete
returns-clause-complete c image sweeps shared owner hides most s is owned =
    rests_found image sweeps shared owner hides most is owned s
