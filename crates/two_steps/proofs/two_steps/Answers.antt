use Rattle.std.proofs.Common.{sym, ◌∙◌}
use Rattle.two_steps.proofs.StepLemmas.{step_twice, twice_trace}
use Rattle.two_steps.proofs.two_steps.Goals as goal

pub returns-in-Ok-step-clause-entries : goal.returns-in-Ok-step-clause-entries
returns-in-Ok-step-clause-entries c =
    twice_trace c.args.core.now c.step.new.self c.step-in-Ok.new.self c.args.first c.args.second
    c.in-Ok.earlier c.in-Ok-step.later c.in-Ok.ensures.ok c.in-Ok-step.ensures.ok
    (sym c.in-Ok.is ∙ c.step.ensures.answered) (sym c.in-Ok-step.is ∙ c.step-in-Ok.ensures.answered)

pub returns-in-Ok-step-clause-steps : goal.returns-in-Ok-step-clause-steps
returns-in-Ok-step-clause-steps c =
    step_twice c.args.core.now c.step.new.self c.step-in-Ok.new.self c.args.first c.args.second
    c.in-Ok.earlier c.in-Ok-step.later c.in-Ok.ensures.ok c.in-Ok-step.ensures.ok
    (sym c.in-Ok.is ∙ c.step.ensures.answered) (sym c.in-Ok-step.is ∙ c.step-in-Ok.ensures.answered)
