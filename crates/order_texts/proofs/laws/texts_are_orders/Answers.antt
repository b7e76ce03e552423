use Rattle.std.proofs.Common.{◌∷◌}
use Rattle.order_texts.proofs.ReadLemmas.{sweeps_read, steps_read}
use Rattle.order_texts.proofs.laws.texts_are_orders.Goals as goal

pub returns-clause-sweeps : goal.returns-clause-sweeps
returns-clause-sweeps c op ops all few = sweeps_read (op ∷ ops) all few

pub returns-clause-steps : goal.returns-clause-steps
returns-clause-steps c op ops all few = steps_read op ops all few
