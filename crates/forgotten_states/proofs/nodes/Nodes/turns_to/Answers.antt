use Rattle.std.proofs.Common.{◌≡◌, ℕ, [], List, Vec, Global, ap, sym, ◌∙◌, subst}
use Rattle.std.specs.Prelude.{Some, slice_get}
use Rattle.std.proofs.lemmas.Result.{IfOk-weaker}
use Rattle.cheri_model.specs.declared.operation.Op.{Op}
use Rattle.cheri_model.specs.runs.Machine.{MachineState}
use Rattle.schedules.specs.Schedules.{AreLabelsOf}
use Rattle.forgotten_states.specs.Nodes.{at}
use Rattle.forgotten_states.specs.Surveys.{AreTurnsTo}
use Rattle.forgotten_states.proofs.NodeLemmas.{own_below, trace_turns, trace_walk}
use Rattle.forgotten_states.proofs.nodes.Nodes.turns_to.Goals as goal

pub machine_labels-requires-clause-walk : goal.machine_labels-requires-clause-walk
machine_labels-requires-clause-walk c =
    trace_walk c.args.turns.image.now c.args.turns.sees.now c.args.turns.live.now c.args.turns.groups c.requires.right
    (λ before after. c.requires.hidden before after) c.args.self.now.graph c.args.self.now.reached c.args.self.now.limit
    c.requires.nodes c.args.number c.in_ok-labels.labels.items c.requires.there c.in_ok-labels.ensures

pub steps_of-requires : goal.steps_of-requires
steps_of-requires c i label there =
    own_below c.args.turns.image.now c.args.turns.sees.now c.args.turns.live.now c.args.turns.groups c.requires.right
    (λ before after. c.requires.hidden before after) c.args.self.now.graph c.args.self.now.reached c.args.self.now.limit
    c.requires.nodes c.args.number c.in_ok-labels.labels.items c.in_ok-own.own.items c.requires.there c.in_ok-labels.ensures
    c.in_ok-own.ensures i label (ap (λ (ls : List ℕ). slice_get ls i) (sym c.as_slice.ensures.value) ∙ there)

pub returns : goal.returns
returns c =
    let image = c.args.turns.image.now in
    let sees = c.args.turns.sees.now in
    let live = c.args.turns.live.now in
    let groups = c.args.turns.groups in
    IfOk-weaker c.steps_of.result
    (λ (ops : Vec Op Global). AreLabelsOf image [] c.as_slice.result.now ops.items)
    (λ (ops : Vec Op Global). (s : MachineState) → at c.args.self.now.graph c.args.self.now.reached c.args.number ≡ Some s →
    AreTurnsTo image sees live groups s ops.items)
    (λ ops are s is. trace_turns image sees live groups c.requires.right (λ before after. c.requires.hidden before after)
    c.args.self.now.graph c.args.self.now.reached c.args.self.now.limit c.requires.nodes c.args.number s c.in_ok-labels.labels.items
    c.in_ok-own.own.items ops.items is c.in_ok-labels.ensures c.in_ok-own.ensures
    (subst (λ (ls : List ℕ). AreLabelsOf image [] ls ops.items) c.as_slice.ensures.value are))
    c.steps_of.ensures
