use Rattle.std.proofs.Common.{ℕ, sym, subst}
use Rattle.std.specs.Prelude.{Option}
use Rattle.cheri_model.specs.runs.Machine.{MachineState}
use Rattle.forgotten_states.specs.Nodes.{IsFirstPassing}
use Rattle.forgotten_states.specs.Nodes as nodes
use Rattle.forgotten_states.specs.Surveys.{SurveyParts, at, count, survey_of}
use Rattle.forgotten_states.proofs.SoughtLemmas.{none_before}
use Rattle.forgotten_states.proofs.SurveyLemmas.{survey_at, survey_count}
use Rattle.forgotten_states.proofs.surveys.Survey.first_passing.Goals as goal

pub first_passing-requires-clause-nodes : goal.first_passing-requires-clause-nodes
first_passing-requires-clause-nodes g c = (
  c.self.inside.turns.image.now,
  c.self.inside.turns.sees.now,
  c.self.inside.turns.live.now,
  c.self.inside.turns.groups,
  c.self.invariant.are,
)

pub first_passing-requires-clause-before : goal.first_passing-requires-clause-before
first_passing-requires-clause-before g c =
    none_before (nodes.at c.self.inside.nodes.graph c.self.inside.nodes.reached) (g.T.StateTest.passing c.args.test.now)

pub returns : goal.returns
returns g c =
    let passing = g.T.StateTest.passing c.args.test.now in
    let whole : SurveyParts = survey_of c.self.inside.turns.image.now c.self.inside.turns.sees.now c.self.inside.turns.live.now
    c.self.inside.turns.groups c.self.inside.nodes.graph c.self.inside.nodes.reached c.self.inside.nodes.limit in
    subst (λ (s : SurveyParts). IsFirstPassing (at s) (count s) passing c.first_passing.result) c.self.view_is
    (subst (λ (a : ℕ → Option MachineState). IsFirstPassing a (count whole) passing c.first_passing.result)
    (sym (survey_at c.self.inside.turns.image.now c.self.inside.turns.sees.now c.self.inside.turns.live.now
    c.self.inside.turns.groups c.self.inside.nodes.graph c.self.inside.nodes.reached c.self.inside.nodes.limit c.self.invariant))
    (subst (λ (n : ℕ). IsFirstPassing (nodes.at c.self.inside.nodes.graph c.self.inside.nodes.reached) n passing c.first_passing.result)
    (sym (survey_count c.self.inside.turns.image.now c.self.inside.turns.sees.now c.self.inside.turns.live.now
    c.self.inside.turns.groups c.self.inside.nodes.graph c.self.inside.nodes.reached c.self.inside.nodes.limit c.self.invariant))
    c.first_passing.ensures))
