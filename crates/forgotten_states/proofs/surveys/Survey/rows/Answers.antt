use Rattle.std.proofs.Common.{◌≡◌, ℕ, ◌+◌, length, ap, sym, ◌∙◌, subst}
use Rattle.std.specs.Prelude.{Option}
use Rattle.cheri_model.specs.runs.Machine.{MachineState}
use Rattle.graph_search.specs.Trees.{state_at}
use Rattle.states.specs.Graphs.{GraphParts, state_in}
use Rattle.forgotten_states.specs.Surveys.{SurveyParts, at, count}
use Rattle.forgotten_states.proofs.SurveyLemmas.{survey_at, survey_count}
use Rattle.forgotten_states.proofs.surveys.Survey.rows.Goals as goal

pub returns-clause-states : goal.returns-clause-states
returns-clause-states c =
    ap (λ (g : GraphParts). state_at (state_in g) c.self.inside.nodes.reached.nodes) c.machine.ensures
    ∙ (sym (survey_at c.self.inside.turns.image.now c.self.inside.turns.sees.now c.self.inside.turns.live.now
    c.self.inside.turns.groups c.self.inside.nodes.graph c.self.inside.nodes.reached c.self.inside.nodes.limit c.self.invariant)
    ∙ ap (λ (s : SurveyParts). at s) c.self.view_is)

pub returns-clause-count : goal.returns-clause-count
returns-clause-count c =
    sym (survey_count c.self.inside.turns.image.now c.self.inside.turns.sees.now c.self.inside.turns.live.now
    c.self.inside.turns.groups c.self.inside.nodes.graph c.self.inside.nodes.reached c.self.inside.nodes.limit c.self.invariant)
    ∙ ap (λ (s : SurveyParts). count s) c.self.view_is

pub returns-clause-harts : goal.returns-clause-harts
returns-clause-harts c =
    ap (λ (g : GraphParts). length g.image.harts) c.machine.ensures
    ∙ (c.self.invariant.are.harts ∙ ap (λ (s : SurveyParts). length s.image.harts) c.self.view_is)

pub returns-clause-width : goal.returns-clause-width
returns-clause-width c =
    c.self.invariant.are.wide ∙ ap (λ (s : SurveyParts). length s.image.harts + 1) c.self.view_is
