use Rattle.own_granules.proofs.SearchLemmas.{same_steps, same_rests, same_turns}
use Rattle.own_granules.proofs.laws.owned_searches_leave_nothing_out.Goals as goal

pub returns-clause-steps : goal.returns-clause-steps
returns-clause-steps c image sweeps shared owner hides most s ls is owned =
    same_steps image sweeps shared owner hides most is owned s ls

pub returns-clause-rests : goal.returns-clause-rests
returns-clause-rests c image sweeps shared owner hides most s is owned =
    same_rests image sweeps shared owner hides most is owned s

pub returns-clause-turns : goal.returns-clause-turns
returns-clause-turns c image sweeps shared owner hides most r ls is owned =
    same_turns image sweeps shared owner hides most is owned r ls
