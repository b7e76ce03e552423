use Rattle.cheri_model.proofs.Runs.ChecksPassed.{invoke_is}
use Rattle.hart_step.proofs.Verdicts.{on_ok}
use Rattle.hart_step.proofs.checks.jumps.invoke_check.Goals as goal

pub returns-clause-tag : goal.returns-clause-tag
returns-clause-tag c = on_ok _ _ _ c.invoke_verdict.ensures (λ passed. (invoke_is c.args.code c.args.c1 c.args.data_cap c.args.c2 c.args.target passed).tagged)

pub returns-clause-within : goal.returns-clause-within
returns-clause-within c = on_ok _ _ _ c.invoke_verdict.ensures (λ passed. (invoke_is c.args.code c.args.c1 c.args.data_cap c.args.c2 c.args.target passed).within)
