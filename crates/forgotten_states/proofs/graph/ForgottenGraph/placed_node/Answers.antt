use Rattle.std.proofs.Common.{◌≡◌, ℕ, List, length, arith, ap, sym, ◌∙◌}
use Rattle.std.specs.Prelude.{Some}
use Rattle.cheri_model.specs.runs.Image.{ImageParts}
use Rattle.cheri_model.specs.runs.Machine.{MachineState}
use Rattle.forgotten_runs.specs.ForgottenRuns.{forgotten_state}
use Rattle.states.specs.Graphs.{rest_in}
use Rattle.states.proofs.NodeLemmas.{node_of}
use Rattle.states.proofs.RowLemmas.{row_back}
use Rattle.forgotten_states.specs.Graphs.{ForgottenParts, state_in}
use Rattle.forgotten_states.proofs.OrderedLemmas.{in_order, places_in_order, stored}
use Rattle.forgotten_states.proofs.graph.ForgottenGraph.placed_node.Goals as goal

pub arrange_row-requires-clause-meant : goal.arrange_row-requires-clause-meant
arrange_row-requires-clause-meant c =
    let s : MachineState = forgotten_state c.args.self.now.live (rest_in c.args.self.now.graph
    (record { harts = c.args.harts.now; memory = c.args.ram.now })) in
    let is : state_in c.forgotten_node.new.self c.as_mut_slice.result.now ≡ Some s =
    ap (state_in c.forgotten_node.new.self) c.as_mut_slice.ensures.value ∙ c.in_ok-node.ensures.node in
    stored c.forgotten_node.new.self.graph c.store.result.now c.as_mut_slice.result.now s
    (c.store.ensures ∙ ap (λ (p : ForgottenParts). p.graph.store) c.self.view_is) is

pub arrange_row-requires-clause-places : goal.arrange_row-requires-clause-places
arrange_row-requires-clause-places c =
    let s : MachineState = forgotten_state c.args.self.now.live (rest_in c.args.self.now.graph
    (record { harts = c.args.harts.now; memory = c.args.ram.now })) in
    let is : state_in c.forgotten_node.new.self c.as_mut_slice.result.now ≡ Some s =
    ap (state_in c.forgotten_node.new.self) c.as_mut_slice.ensures.value ∙ c.in_ok-node.ensures.node in
    let width = (node_of c.forgotten_node.new.self.graph c.as_mut_slice.result.now s is).width in
    let harts = ap (λ (i : ImageParts). length i.harts) c.forgotten_node.ensures.remembers.graph.image in
    let places = c.requires.places in
    omega (arith, width, harts)

pub returns-clause-node : goal.returns-clause-node
returns-clause-node c =
    let s : MachineState = forgotten_state c.args.self.now.live (rest_in c.args.self.now.graph
    (record { harts = c.args.harts.now; memory = c.args.ram.now })) in
    let is : state_in c.forgotten_node.new.self c.as_mut_slice.result.now ≡ Some s =
    ap (state_in c.forgotten_node.new.self) c.as_mut_slice.ensures.value ∙ c.in_ok-node.ensures.node in
    let whole : length c.as_mut_slice.result.now ≡ length c.in_ok-node.node.items =
    ap (λ (l : List ℕ). length l) c.as_mut_slice.ensures.value in
    let size = c.arrange_row.ensures.row in
    let count : c.in_ok-node.node.len ≡ length c.arrange_row.new.row = omega (arith, c.in_ok-node.node.ok.0) in
    let back = row_back c.in_ok-node.node.len c.arrange_row.new.row c.in_ok-node.node.items count in
    ap (state_in c.forgotten_node.new.self) back
    ∙ in_order c.forgotten_node.new.self.graph c.store.result.now c.self.inside.groups c.args.self.now.groups
    c.as_mut_slice.result.now s (c.store.ensures ∙ ap (λ (p : ForgottenParts). p.graph.store) c.self.view_is) is
    (ap (λ (p : ForgottenParts). p.groups) c.self.view_is ∙ c.forgotten_node.ensures.remembers.groups)
    c.arrange_row.new.row size (λ t there. (c.arrange_row.ensures.state t there).0)

pub returns-clause-moved : goal.returns-clause-moved
returns-clause-moved c =
    let s : MachineState = forgotten_state c.args.self.now.live (rest_in c.args.self.now.graph
    (record { harts = c.args.harts.now; memory = c.args.ram.now })) in
    let is : state_in c.forgotten_node.new.self c.as_mut_slice.result.now ≡ Some s =
    ap (state_in c.forgotten_node.new.self) c.as_mut_slice.ensures.value ∙ c.in_ok-node.ensures.node in
    let harts = ap (λ (i : ImageParts). length i.harts) c.forgotten_node.ensures.remembers.graph.image in
    places_in_order c.forgotten_node.new.self.graph c.store.result.now c.self.inside.groups c.args.self.now.groups
    c.as_mut_slice.result.now s (c.store.ensures ∙ ap (λ (p : ForgottenParts). p.graph.store) c.self.view_is) is
    (ap (λ (p : ForgottenParts). p.groups) c.self.view_is ∙ c.forgotten_node.ensures.remembers.groups)
    c.args.places.now c.arrange_row.new.places (c.requires.places ∙ sym harts) (λ t there. (c.arrange_row.ensures.state t there).1)
