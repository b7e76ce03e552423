use Rattle.cheri_model.proofs.Runs.ChecksPassed.{target_within}
use Rattle.hart_step.proofs.Verdicts.{on_ok}
use Rattle.hart_step.proofs.checks.jumps.target_check.Goals as goal

pub returns-clause-within : goal.returns-clause-within
returns-clause-within c =
    on_ok _ _ _ c.target_verdict.ensures (λ passed. target_within c.args.pcc c.args.target passed)
