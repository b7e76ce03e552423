use Rattle.std.proofs.Common.{ap, sym, ◌∙◌, subst}
use Rattle.forgotten_states.specs.Surveys.{IsSurvey, SurveyParts, count}
use Rattle.forgotten_states.proofs.SurveyLemmas.{survey_count, survey_made}
use Rattle.forgotten_states.proofs.surveys.Survey.len.Goals as goal

pub returns-clause-count : goal.returns-clause-count
returns-clause-count c =
    c.len.ensures
    ∙ (sym (survey_count c.self.inside.turns.image.now c.self.inside.turns.sees.now c.self.inside.turns.live.now
    c.self.inside.turns.groups c.self.inside.nodes.graph c.self.inside.nodes.reached c.self.inside.nodes.limit c.self.invariant)
    ∙ ap (λ (s : SurveyParts). count s) c.self.view_is)

pub returns-clause-survey : goal.returns-clause-survey
returns-clause-survey c =
    subst (λ (s : SurveyParts). IsSurvey s) c.self.view_is
    (survey_made c.self.inside.turns.image.now c.self.inside.turns.sees.now c.self.inside.turns.live.now
    c.self.inside.turns.groups c.self.inside.nodes.graph c.self.inside.nodes.reached c.self.inside.nodes.limit c.self.invariant)
