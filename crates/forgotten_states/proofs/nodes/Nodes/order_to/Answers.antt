use Rattle.std.proofs.Common.{◌≡◌, [], List, Vec, Global, ap, sym, ◌∙◌, subst}
use Rattle.std.specs.Prelude.{Some}
use Rattle.std.proofs.lemmas.Result.{IfOk-weaker}
use Rattle.cheri_model.specs.declared.operation.Op.{Op}
use Rattle.cheri_model.specs.runs.Machine.{MachineState}
use Rattle.explore_turns.specs.Orders.{AreOfHarts, order_of_turns}
use Rattle.forgotten_states.specs.Nodes.{at}
use Rattle.forgotten_states.specs.Sought.{IsOrderTo}
use Rattle.forgotten_states.proofs.NodeLemmas.{turns_harts, turns_order}
use Rattle.forgotten_states.proofs.nodes.Nodes.order_to.Goals as goal

pub order_of_turns-requires : goal.order_of_turns-requires
order_of_turns-requires c =
    let meant = c.requires.nodes.nodes.meant c.args.number c.requires.there in
    subst (λ (os : List Op). AreOfHarts c.args.turns.image.now os) (sym c.as_slice.ensures.value)
    (λ i hart at. turns_harts c.args.turns.image.now c.args.turns.sees.now c.args.turns.live.now c.args.turns.groups meant.0 c.in_ok-ops.ops.items
    (c.in_ok-ops.ensures meant.0 meant.1) i hart at)

pub returns : goal.returns
returns c =
    let image = c.args.turns.image.now in
    let sees = c.args.turns.sees.now in
    let live = c.args.turns.live.now in
    let groups = c.args.turns.groups in
    IfOk-weaker c.order_of_turns.result
    (λ (order : Vec Op Global). order.items ≡ order_of_turns image [] sees c.as_slice.result.now)
    (λ (order : Vec Op Global). (s : MachineState) → at c.args.self.now.graph c.args.self.now.reached c.args.number ≡ Some s →
    IsOrderTo image sees live groups s order.items)
    (λ order made s is.
    subst (λ (o : List Op). IsOrderTo image sees live groups s o)
    (sym (made ∙ ap (λ (os : List Op). order_of_turns image [] sees os) c.as_slice.ensures.value))
    (turns_order image sees live groups c.requires.right (λ before after. c.requires.hidden before after) s c.in_ok-ops.ops.items
    (c.in_ok-ops.ensures s is)))
    c.order_of_turns.ensures
