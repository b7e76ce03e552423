use Rattle.cheri_model.proofs.Runs.ChecksPassed.{jump_is}
use Rattle.hart_step.proofs.Verdicts.{on_ok}
use Rattle.hart_step.proofs.checks.jumps.jump_check.Goals as goal

pub returns-clause-tag : goal.returns-clause-tag
returns-clause-tag c = on_ok _ _ _ c.jump_verdict.ensures (λ passed. (jump_is c.args.through c.args.reg c.args.is_entry c.args.target passed).tagged)

pub returns-clause-within : goal.returns-clause-within
returns-clause-within c = on_ok _ _ _ c.jump_verdict.ensures (λ passed. (jump_is c.args.through c.args.reg c.args.is_entry c.args.target passed).within)
