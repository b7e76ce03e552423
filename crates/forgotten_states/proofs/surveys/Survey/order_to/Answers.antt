use Rattle.std.proofs.Common.{◌≡◌, ◌<◌, ℕ, Vec, Global, sym, subst}
use Rattle.std.specs.Prelude.{IfOk, Option, Some}
use Rattle.cheri_model.specs.declared.operation.Op.{Op}
use Rattle.cheri_model.specs.runs.Machine.{MachineState}
use Rattle.forgotten_states.specs.Sought.{IsOrderTo}
use Rattle.forgotten_states.specs.Surveys.{SurveyParts, at, count}
use Rattle.forgotten_states.proofs.SurveyLemmas.{survey_at, survey_count}
use Rattle.forgotten_states.proofs.surveys.Survey.order_to.Goals as goal

pub order_to-requires-clause-nodes : goal.order_to-requires-clause-nodes
order_to-requires-clause-nodes c = c.self.invariant.are

pub order_to-requires-clause-right : goal.order_to-requires-clause-right
order_to-requires-clause-right c = c.self.invariant.right

pub order_to-requires-clause-hidden : goal.order_to-requires-clause-hidden
order_to-requires-clause-hidden c before after = c.self.invariant.hidden before after

pub order_to-requires-clause-there : goal.order_to-requires-clause-there
order_to-requires-clause-there c =
    subst (λ (n : ℕ). c.args.number < n)
    (survey_count c.self.inside.turns.image.now c.self.inside.turns.sees.now c.self.inside.turns.live.now
    c.self.inside.turns.groups c.self.inside.nodes.graph c.self.inside.nodes.reached c.self.inside.nodes.limit c.self.invariant)
    (subst (λ (s : SurveyParts). c.args.number < count s) (sym c.self.view_is) c.requires.there)

pub returns : goal.returns
returns c =
    subst (λ (v : SurveyParts). IfOk c.order_to.result (λ (order : Vec Op Global). (s : MachineState) → at v c.args.number ≡ Some s →
    IsOrderTo v.image v.sight v.live v.groups s order.items)) c.self.view_is
    (subst (λ (a : ℕ → Option MachineState). IfOk c.order_to.result (λ (order : Vec Op Global). (s : MachineState) →
    a c.args.number ≡ Some s → IsOrderTo c.self.inside.turns.image.now c.self.inside.turns.sees.now c.self.inside.turns.live.now
    c.self.inside.turns.groups s order.items))
    (sym (survey_at c.self.inside.turns.image.now c.self.inside.turns.sees.now c.self.inside.turns.live.now
    c.self.inside.turns.groups c.self.inside.nodes.graph c.self.inside.nodes.reached c.self.inside.nodes.limit c.self.invariant))
    c.order_to.ensures)
