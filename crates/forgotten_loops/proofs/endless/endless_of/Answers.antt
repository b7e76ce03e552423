use Rattle.std.proofs.Common.{ℕ, length, sym, subst}
use Rattle.std.specs.Prelude.{Option}
use Rattle.cheri_model.specs.runs.Machine.{MachineState}
use Rattle.forgotten_states.specs.Surveys.{SurveyParts, at}
use Rattle.hart_order.specs.Arrangements.{IsUngrouped}
use Rattle.hart_order.proofs.GroupedLemmas.{turns_ungrouped}
use Rattle.loop_search.specs.Verdicts.{IsVerdict}
use Rattle.forgotten_loops.proofs.endless.endless_of.Goals as goal

pub endless_by-requires-clause-ungrouped : goal.endless_by-requires-clause-ungrouped
endless_by-requires-clause-ungrouped c =
    subst (λ (s : SurveyParts). IsUngrouped s.groups) (sym c.in_ok-survey.ensures.same) (λ hart. c.requires hart)

pub endless_by-requires-clause-verdict : goal.endless_by-requires-clause-verdict
endless_by-requires-clause-verdict c =
    let survey = c.in_ok-survey.field-0.survey in
    subst (λ (f : MachineState → ℕ → Option MachineState). IsVerdict f (length survey.image.harts) (at survey) survey.complete
    c.in_ok-survey.field-0.verdict)
    (turns_ungrouped survey.groups (endless_by-requires-clause-ungrouped c) survey.image survey.sight survey.live)
    c.in_ok-survey.ensures.verdict
