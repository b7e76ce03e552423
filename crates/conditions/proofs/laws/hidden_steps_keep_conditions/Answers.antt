use Rattle.conditions.proofs.HiddenLemmas.{hidden_keeps}
use Rattle.conditions.proofs.laws.hidden_steps_keep_conditions.Goals as goal

pub returns : goal.returns
returns c = hidden_keeps
