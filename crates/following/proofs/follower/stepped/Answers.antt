use Rattle.std.proofs.Common.{sym, ◌∙◌}
use Rattle.following.proofs.Followed.{step_not_refused, stepped_outcome}
use Rattle.following.proofs.follower.stepped.Goals as goal

pub unreachable-requires : goal.unreachable-requires
unreachable-requires c = step_not_refused c.args.core.now c.args.number c.in-Err.field-0 c.requires (sym c.in-Err.is ∙ c.step.ensures.answered)

pub returns-clause-outcome : goal.returns-clause-outcome
returns-clause-outcome c = stepped_outcome c.args.core.now c.args.number c.in-Ok.entry c.requires (sym c.in-Ok.is ∙ c.step.ensures.answered)
