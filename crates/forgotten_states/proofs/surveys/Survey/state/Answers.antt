use Rattle.std.proofs.Common.{◌<◌, ℕ, ap, sym, ◌∙◌, subst}
use Rattle.std.specs.Prelude.{Option}
use Rattle.cheri_model.specs.runs.Machine.{MachineState}
use Rattle.forgotten_states.specs.Surveys.{SurveyParts, at, count}
use Rattle.forgotten_states.proofs.SurveyLemmas.{survey_at, survey_count}
use Rattle.forgotten_states.proofs.surveys.Survey.state.Goals as goal

pub state-requires-clause-nodes : goal.state-requires-clause-nodes
state-requires-clause-nodes c = (
  c.self.inside.turns.image.now,
  c.self.inside.turns.sees.now,
  c.self.inside.turns.live.now,
  c.self.inside.turns.groups,
  c.self.invariant.are,
)

pub state-requires-clause-there : goal.state-requires-clause-there
state-requires-clause-there c =
    subst (λ (n : ℕ). c.args.number < n)
    (survey_count c.self.inside.turns.image.now c.self.inside.turns.sees.now c.self.inside.turns.live.now
    c.self.inside.turns.groups c.self.inside.nodes.graph c.self.inside.nodes.reached c.self.inside.nodes.limit c.self.invariant)
    (subst (λ (s : SurveyParts). c.args.number < count s) (sym c.self.view_is) c.requires.there)

pub returns-clause-state : goal.returns-clause-state
returns-clause-state c =
    ap (λ (s : SurveyParts). at s c.args.number) (sym c.self.view_is)
    ∙ (ap (λ (a : ℕ → Option MachineState). a c.args.number)
    (survey_at c.self.inside.turns.image.now c.self.inside.turns.sees.now c.self.inside.turns.live.now
    c.self.inside.turns.groups c.self.inside.nodes.graph c.self.inside.nodes.reached c.self.inside.nodes.limit c.self.invariant) ∙ c.state.ensures.state)
