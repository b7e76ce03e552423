use Rattle.std.proofs.Common.{◌≡◌, ◌≤◌, ℕ, List, length, arith, ap, ◌∙◌, subst}
use Rattle.std.specs.Prelude.{Some}
use Rattle.cheri_model.specs.runs.Machine.{MachineState}
use Rattle.forgotten_runs.specs.ForgottenRuns.{forgotten_state}
use Rattle.states.specs.Graphs.{rest_in}
use Rattle.states.proofs.RowLemmas.{row_back}
use Rattle.forgotten_states.specs.Graphs.{ForgottenParts, state_in}
use Rattle.forgotten_states.proofs.OrderedLemmas.{in_order, short, stored}
use Rattle.forgotten_states.proofs.graph.ForgottenGraph.node.Goals as goal

pub put_in_order-requires-clause-meant : goal.put_in_order-requires-clause-meant
put_in_order-requires-clause-meant c =
    let s : MachineState = forgotten_state c.args.self.now.live (rest_in c.args.self.now.graph
    (record { harts = c.args.harts.now; memory = c.args.ram.now })) in
    let is : state_in c.forgotten_node.new.self c.as_mut_slice.result.now ≡ Some s =
    ap (state_in c.forgotten_node.new.self) c.as_mut_slice.ensures.value ∙ c.in_ok-node.ensures.node in
    stored c.forgotten_node.new.self.graph c.store.result.now c.as_mut_slice.result.now s
    (c.store.ensures ∙ ap (λ (p : ForgottenParts). p.graph.store) c.self.view_is) is

pub put_in_order-requires-clause-few : goal.put_in_order-requires-clause-few
put_in_order-requires-clause-few c =
    let s : MachineState = forgotten_state c.args.self.now.live (rest_in c.args.self.now.graph
    (record { harts = c.args.harts.now; memory = c.args.ram.now })) in
    let is : state_in c.forgotten_node.new.self c.as_mut_slice.result.now ≡ Some s =
    ap (state_in c.forgotten_node.new.self) c.as_mut_slice.ensures.value ∙ c.in_ok-node.ensures.node in
    short c.forgotten_node.new.self.graph c.as_mut_slice.result.now s is
    (subst (λ (p : ForgottenParts). length p.graph.image.harts ≤ 8) c.self.view_is c.self.invariant.few)

pub returns-clause-node : goal.returns-clause-node
returns-clause-node c =
    let s : MachineState = forgotten_state c.args.self.now.live (rest_in c.args.self.now.graph
    (record { harts = c.args.harts.now; memory = c.args.ram.now })) in
    let is : state_in c.forgotten_node.new.self c.as_mut_slice.result.now ≡ Some s =
    ap (state_in c.forgotten_node.new.self) c.as_mut_slice.ensures.value ∙ c.in_ok-node.ensures.node in
    let whole : length c.as_mut_slice.result.now ≡ length c.in_ok-node.node.items =
    ap (λ (l : List ℕ). length l) c.as_mut_slice.ensures.value in
    let size = c.put_in_order.ensures.row in
    let count : c.in_ok-node.node.len ≡ length c.put_in_order.new.row = omega (arith, c.in_ok-node.node.ok.0) in
    let back = row_back c.in_ok-node.node.len c.put_in_order.new.row c.in_ok-node.node.items count in
    ap (state_in c.forgotten_node.new.self) back
    ∙ in_order c.forgotten_node.new.self.graph c.store.result.now c.self.inside.groups c.args.self.now.groups
    c.as_mut_slice.result.now s (c.store.ensures ∙ ap (λ (p : ForgottenParts). p.graph.store) c.self.view_is) is
    (ap (λ (p : ForgottenParts). p.groups) c.self.view_is ∙ c.forgotten_node.ensures.remembers.groups)
    c.put_in_order.new.row size (λ t there. c.put_in_order.ensures.state t there)
