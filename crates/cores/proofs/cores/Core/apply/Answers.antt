-- What a step answers is the entry of its event.
use Rattle.std.proofs.Common.{sym, ap, ◌∙◌}
use Rattle.std.proofs.lemmas.Result.{err_from_is_err_and}
use Rattle.std.specs.Prelude.{Err}
use Rattle.cores.specs.declared.faults.StepFault.{StepFault}
use Rattle.cores.specs.Cores.{answered}
use Rattle.cores.proofs.CoreLemmas.{step_added, step_refused}
use Rattle.cores.proofs.cores.Core.apply.Goals as goal

pub returns-in_ok-step-in-Step-clause-answered : goal.returns-in_ok-step-in-Step-clause-answered
returns-in_ok-step-in-Step-clause-answered c =
    step_added c.args.self.now c.in-Step.hart c.in_ok-step-in-Step.field-0 c.in_ok-step-in-Step.ensures.answered
    ∙ ap (answered c.args.self.now) (sym c.in-Step.is)

pub returns-in_err-step-in-Step-clause-answered : goal.returns-in_err-step-in-Step-clause-answered
returns-in_err-step-in-Step-clause-answered c =
    let fault = c.in_err-step-in-Step.field-0.0 in
    let p = err_from_is_err_and c.from_residual.result c.from_residual.ensures.1 in
    p.1
    ∙ (ap (λ (f : StepFault). Err f) p.2
    ∙ (step_refused c.args.self.now c.in-Step.hart fault c.in_err-step-in-Step.ensures.answered
    ∙ ap (answered c.args.self.now) (sym c.in-Step.is)))
