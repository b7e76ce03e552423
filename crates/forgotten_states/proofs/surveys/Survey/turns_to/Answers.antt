use Rattle.std.proofs.Common.{◌≡◌, ◌<◌, ℕ, Vec, Global, sym, subst}
use Rattle.std.specs.Prelude.{IfOk, Option, Some}
use Rattle.cheri_model.specs.declared.operation.Op.{Op}
use Rattle.cheri_model.specs.runs.Machine.{MachineState}
use Rattle.forgotten_states.specs.Surveys.{AreTurnsTo, SurveyParts, at, count}
use Rattle.forgotten_states.proofs.SurveyLemmas.{survey_at, survey_count}
use Rattle.forgotten_states.proofs.surveys.Survey.turns_to.Goals as goal

pub turns_to-requires-clause-nodes : goal.turns_to-requires-clause-nodes
turns_to-requires-clause-nodes c = c.self.invariant.are

pub turns_to-requires-clause-right : goal.turns_to-requires-clause-right
turns_to-requires-clause-right c = c.self.invariant.right

pub turns_to-requires-clause-hidden : goal.turns_to-requires-clause-hidden
turns_to-requires-clause-hidden c before after = c.self.invariant.hidden before after

pub turns_to-requires-clause-there : goal.turns_to-requires-clause-there
turns_to-requires-clause-there c =
    subst (λ (n : ℕ). c.args.number < n)
    (survey_count c.self.inside.turns.image.now c.self.inside.turns.sees.now c.self.inside.turns.live.now
    c.self.inside.turns.groups c.self.inside.nodes.graph c.self.inside.nodes.reached c.self.inside.nodes.limit c.self.invariant)
    (subst (λ (s : SurveyParts). c.args.number < count s) (sym c.self.view_is) c.requires.there)

pub returns : goal.returns
returns c =
    subst (λ (v : SurveyParts). IfOk c.turns_to.result (λ (ops : Vec Op Global). (s : MachineState) → at v c.args.number ≡ Some s →
    AreTurnsTo v.image v.sight v.live v.groups s ops.items)) c.self.view_is
    (subst (λ (a : ℕ → Option MachineState). IfOk c.turns_to.result (λ (ops : Vec Op Global). (s : MachineState) →
    a c.args.number ≡ Some s → AreTurnsTo c.self.inside.turns.image.now c.self.inside.turns.sees.now c.self.inside.turns.live.now
    c.self.inside.turns.groups s ops.items))
    (sym (survey_at c.self.inside.turns.image.now c.self.inside.turns.sees.now c.self.inside.turns.live.now
    c.self.inside.turns.groups c.self.inside.nodes.graph c.self.inside.nodes.reached c.self.inside.nodes.limit c.self.invariant))
    c.turns_to.ensures)
