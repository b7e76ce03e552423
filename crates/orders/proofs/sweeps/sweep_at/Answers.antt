use Rattle.std.proofs.Common.{rules}
use Rattle.orders.specs.Sweeps.{sweep_at}
use Rattle.orders.proofs.SweepLemmas.{sweep_read}
use Rattle.orders.proofs.sweeps.sweep_at.Goals as goal

pub returns-in_err-comma-clause-sweep : goal.returns-in_err-comma-clause-sweep
unfolding sweep_at
returns-in_err-comma-clause-sweep c = search rules

pub returns-in_err-bracket-clause-sweep : goal.returns-in_err-bracket-clause-sweep
unfolding sweep_at
returns-in_err-bracket-clause-sweep c = search rules

pub returns-in_err-sweep-clause-sweep : goal.returns-in_err-sweep-clause-sweep
unfolding sweep_at
returns-in_err-sweep-clause-sweep c = search (rules, sweep_read)

pub returns-clause-sweep : goal.returns-clause-sweep
unfolding sweep_at
returns-clause-sweep c = search (rules, sweep_read)
