-- What the machine's sweep answers.
use Rattle.harts.proofs.SweepAnswers.{records_sweep, bad_range, no_such_hart, no_stopped_hart, token_kept}
use Rattle.harts.proofs.lock.Shared.sweep.Goals as goal

pub returns-clause-event : goal.returns-clause-event
returns-clause-event g c = records_sweep c.args.lo c.args.hi _ c.sweep.result c.sweep.ensures.event

pub returns-clause-range : goal.returns-clause-range
returns-clause-range g c = bad_range _ c.args.lo c.args.hi c.sweep.result c.sweep.ensures.answered c.sweep.ensures.memory

pub returns-clause-of_no_hart : goal.returns-clause-of_no_hart
returns-clause-of_no_hart g c = (
  no_such_hart _ c.args.lo c.args.hi c.sweep.result c.sweep.ensures.answered c.sweep.ensures.memory,
  no_stopped_hart _ c.args.lo c.args.hi c.sweep.result c.sweep.ensures.answered c.sweep.ensures.memory,
)

pub returns-clause-counted : goal.returns-clause-counted
returns-clause-counted g c = c.sweep.ensures.counted

pub returns-clause-kept : goal.returns-clause-kept
returns-clause-kept g c = token_kept _ _ c.sweep.result c.sweep.ensures.kept
