use Rattle.explore_turns.proofs.TurnLemmas.{go, merging}
use Rattle.explore_turns.proofs.laws.turns_merge_steps.Goals as goal

pub returns : goal.returns
returns c image sweeps hides most = (go image sweeps hides most, merging image sweeps hides most)
