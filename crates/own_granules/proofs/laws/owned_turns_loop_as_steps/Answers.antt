use Rattle.own_granules.proofs.SearchLemmas.{turn_loops, step_loops, step_fair, turn_fair}
use Rattle.own_granules.proofs.laws.owned_turns_loop_as_steps.Goals as goal

pub returns-clause-turns : goal.returns-clause-turns
returns-clause-turns c image sweeps shared owner hides most r ls is owned =
    turn_loops image sweeps shared owner hides most is owned r ls

pub returns-clause-fair_turns : goal.returns-clause-fair_turns
returns-clause-fair_turns c = turn_fair

pub returns-clause-steps : goal.returns-clause-steps
returns-clause-steps c image sweeps shared owner hides most s ls is owned =
    step_loops image sweeps shared owner hides most is owned s ls

pub returns-clause-fair_steps : goal.returns-clause-fair_steps
returns-clause-fair_steps c image sweeps shared owner hides most s ls ms is owned =
    step_fair image sweeps shared owner hides most is owned s ls ms
