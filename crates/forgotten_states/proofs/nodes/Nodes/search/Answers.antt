use Rattle.std.proofs.Common.{◌≡◌, ℕ, ◌+◌, ◌*◌, List, length, arith, ap, sym, ◌∙◌}
use Rattle.std.specs.Prelude.{Some}
use Rattle.cap_model.specs.values.CapValue.{CapValue}
use Rattle.cheri_model.specs.runs.Image.{ImageParts}
use Rattle.cheri_model.specs.runs.Machine.{MachineState, opening_state}
use Rattle.hart.specs.View.{state_of}
use Rattle.hart_order.specs.GroupedTurns.{grouped_start}
use Rattle.states.proofs.NodeLemmas.{is_some, node_of}
use Rattle.states.proofs.OpeningLemmas.{opening_granules, opening_harts}
use Rattle.states.proofs.SizeLemmas.{sizes_of}
use Rattle.forgotten_states.specs.Graphs.{state_in}
use Rattle.forgotten_states.proofs.GraphLemmas.{turns_of}
use Rattle.forgotten_states.proofs.NodeLemmas.{nodes_found, start_is}
use Rattle.forgotten_states.proofs.nodes.Nodes.search.Goals as goal

pub graph_of-requires-clause-size : goal.graph_of-requires-clause-size
graph_of-requires-clause-size g c =
    let opening : state_of c.view-view.result ≡ opening_state c.args.turns.image.now = c.view-view.ensures.state ∙ c.requires.opening in
    ap (λ (m : List CapValue). 16 * length m) (ap (λ (s : MachineState). s.memory) opening)
    ∙ opening_granules c.args.turns.image.now c.granules-granules.ensures.formed

pub node-requires-clause-harts : goal.node-requires-clause-harts
node-requires-clause-harts g c =
    let opening : state_of c.view-view.result ≡ opening_state c.args.turns.image.now = c.view-view.ensures.state ∙ c.requires.opening in
    ap (λ (s : MachineState). length s.harts) opening
    ∙ (opening_harts c.args.turns.image.now ∙ ap (λ (i : ImageParts). length i.harts) (sym c.in_ok-graph.ensures.image))

pub explore-requires-clause-opened : goal.explore-requires-clause-opened
explore-requires-clause-opened g c =
    let image = c.args.turns.image.now in
    let made = c.in_ok-graph.ensures in
    let opening : state_of c.view-view.result ≡ opening_state image = c.view-view.ensures.state ∙ c.requires.opening in
    is_some (state_in c.node.new.self c.as_slice.result.now) (grouped_start image c.args.turns.sees.now c.args.turns.live.now c.args.turns.groups)
    (ap (state_in c.node.new.self) c.as_slice.ensures.value ∙ (c.in_ok-start.ensures.node
    ∙ ap (λ (s : MachineState). Some s) (start_is c.in_ok-graph.graph image c.args.turns.sees.now c.args.turns.live.now c.args.turns.groups
    (state_of c.view-view.result) made.live made.groups made.image made.sweeps made.sight opening)))

pub explore-requires-clause-wide : goal.explore-requires-clause-wide
explore-requires-clause-wide g c =
    ap (λ (row : List ℕ). length row) c.as_slice.ensures.value
    ∙ (node_of c.node.new.self.graph c.in_ok-start.start.items _ c.in_ok-start.ensures.node).width

pub returns-clause-nodes : goal.returns-clause-nodes
returns-clause-nodes g c =
    let image = c.args.turns.image.now in
    let sees = c.args.turns.sees.now in
    let live = c.args.turns.live.now in
    let groups = c.args.turns.groups in
    let made = c.in_ok-graph.ensures in
    let kept = c.node.ensures.remembers in
    let opening : state_of c.view-view.result ≡ opening_state image = c.view-view.ensures.state ∙ c.requires.opening in
    let start : state_in c.node.new.self c.as_slice.result.now ≡ Some (grouped_start image sees live groups) =
    ap (state_in c.node.new.self) c.as_slice.ensures.value ∙ (c.in_ok-start.ensures.node
    ∙ ap (λ (s : MachineState). Some s) (start_is c.in_ok-graph.graph image sees live groups
    (state_of c.view-view.result) made.live made.groups made.image made.sweeps made.sight opening)) in
    let edges = c.explore.ensures.same_graph ∙ turns_of c.node.new.self image sees live groups (kept.live ∙ made.live)
    (kept.groups ∙ made.groups) (kept.graph.image ∙ made.image) (kept.graph.sweeps ∙ made.sweeps) (kept.graph.sight ∙ made.sight) in
    let width : length c.explore.new.graph.graph.image.harts + 1 ≡ length c.node.new.self.graph.image.harts + 1 =
    c.explore.ensures.same_width in
    let same : length c.node.new.self.graph.image.harts ≡ length image.harts =
    ap (λ (i : ImageParts). length i.harts) (kept.graph.image ∙ made.image) in
    let harts : length c.explore.new.graph.graph.image.harts ≡ length image.harts = omega arith in
    nodes_found image sees live groups c.explore.new.graph c.in_ok-reached.reached c.args.limit edges harts
    (sizes_of image c.granules-granules.ensures.formed).harts_few
    (c.in_ok-reached.ensures.explored (grouped_start image sees live groups) start) c.in_ok-reached.ensures.wide
    c.in_ok-reached.ensures.stands
