-- one step is counted, and none where it was refused
use Rattle.harts.proofs.SweepAnswers.{token_kept}
use Rattle.harts.proofs.workers.step_once.Goals as goal

pub returns-clause-counted : goal.returns-clause-counted
returns-clause-counted g c = c.step.ensures.counted

pub returns-clause-kept : goal.returns-clause-kept
returns-clause-kept g c = token_kept _ _ c.step.result c.step.ensures.kept
