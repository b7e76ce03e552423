use Rattle.own_granules.proofs.SearchLemmas.{few_steps}
use Rattle.own_granules.proofs.laws.owned_turns_bound_steps.Goals as goal

pub returns : goal.returns
returns c image sweeps shared owner hides most count s ls is owned short walk =
    few_steps image sweeps shared owner hides most is owned count s ls short walk
