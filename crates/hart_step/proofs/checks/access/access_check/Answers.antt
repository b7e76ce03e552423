-- An access that passed its table fits the memory.
use Rattle.cheri_model.proofs.Runs.Advances.{fits_access}
use Rattle.cheri_model.proofs.Runs.ChecksPassed.{access_is}
use Rattle.hart_step.proofs.Verdicts.{on_ok}
use Rattle.hart_step.proofs.checks.access.access_check.Goals as goal

pub returns-clause-place : goal.returns-clause-place
returns-clause-place c =
    on_ok _ _ _ c.table_verdict.ensures
    (λ passed. fits_access c.args.addr c.args.kind c.args.ram.now
    (access_is c.args.auth c.args.reg c.args.addr c.args.kind c.args.stored c.args.ram.now passed))
