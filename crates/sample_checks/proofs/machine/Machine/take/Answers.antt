use Rattle.std.proofs.Common.{◌≡◌, true, subst}
use Rattle.cheri_model.specs.declared.operation.Op.{Op}
use Rattle.cheri_model.specs.runs.Machine.{may_take}
use Rattle.sample_runs.specs.Runners.{state_of}
use Rattle.sample_runs.proofs.RunLemmas.{step_there}
use Rattle.sample_checks.proofs.machine.Machine.take.Goals as goal

pub step-requires : goal.step-requires
step-requires c =
    step_there (state_of c.args.self.now) c.in-Step.number
    (subst (λ (op : Op). may_take (state_of c.args.self.now) op ≡ true) c.in-Step.is c.requires)
