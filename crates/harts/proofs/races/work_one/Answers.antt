-- the loop had all these turns
use Rattle.harts.specs.Reports.{KeepsTurns}
use Rattle.harts.proofs.races.work_one.Goals as goal

pub returns-clause-within_turns : goal.returns-clause-within_turns
unfolding KeepsTurns
returns-clause-within_turns g c = (c.hart_loop-share.ensures.turns, c.hart_loop-share.ensures.why)
