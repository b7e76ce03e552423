use Rattle.std.proofs.Common.{◌≡◌, ◌*◌, ◌≤◌, ◌<◌, ℕ, Vec, Global, List, length, arith, ap, sym, ◌∙◌, subst}
use Rattle.std.specs.Prelude.{Some}
use Rattle.std.proofs.lemmas.Result.{IfOk-weaker}
use Rattle.cap_model.specs.values.CapValue.{CapValue}
use Rattle.cheri_model.specs.runs.Image.{ImageParts}
use Rattle.cheri_model.specs.runs.Machine.{MachineState, opening_state}
use Rattle.forgotten_turns.specs.ForgottenTurns.{forgotten_start}
use Rattle.hart.specs.View.{state_of}
use Rattle.hart_order.specs.GroupedTurns.{grouped_start, machine_labels}
use Rattle.states.proofs.OpeningLemmas.{opening_granules, opening_harts}
use Rattle.states.proofs.SizeLemmas.{sizes_of}
use Rattle.states.proofs.RowLemmas.{row_back}
use Rattle.forgotten_states.specs.Graphs.{AreMoved, forgotten_in, state_in}
use Rattle.forgotten_states.proofs.GraphLemmas.{forgotten_of}
use Rattle.forgotten_states.proofs.NodeLemmas.{forgotten_start_is, start_is}
use Rattle.forgotten_states.proofs.ReplayLemmas.{own, place_of, retold}
use Rattle.forgotten_states.proofs.replaying.take_again.Goals as goal

pub graph_of-requires-clause-size : goal.graph_of-requires-clause-size
graph_of-requires-clause-size c =
    let opening : state_of c.view-view.result ≡ opening_state c.args.turns.image.now = c.view-view.ensures.state ∙ c.requires.opening in
    ap (λ (m : List CapValue). 16 * length m) (ap (λ (s : MachineState). s.memory) opening)
    ∙ opening_granules c.args.turns.image.now c.granules-granules.ensures.formed

pub own_places-requires : goal.own_places-requires
own_places-requires c =
    let opening : state_of c.view-view.result ≡ opening_state c.args.turns.image.now = c.view-view.ensures.state ∙ c.requires.opening in
    subst (λ (n : ℕ). n ≤ 8)
    (sym (ap (λ (s : MachineState). length s.harts) opening ∙ opening_harts c.args.turns.image.now))
    (sizes_of c.args.turns.image.now c.granules-granules.ensures.formed).harts_few

pub placed_node-requires-clause-harts : goal.placed_node-requires-clause-harts
placed_node-requires-clause-harts c =
    let opening : state_of c.view-view.result ≡ opening_state c.args.turns.image.now = c.view-view.ensures.state ∙ c.requires.opening in
    ap (λ (s : MachineState). length s.harts) opening
    ∙ (opening_harts c.args.turns.image.now ∙ ap (λ (i : ImageParts). length i.harts) (sym c.in_ok-graph.ensures.image))

pub placed_node-requires-clause-places : goal.placed_node-requires-clause-places
placed_node-requires-clause-places c =
    let opening : state_of c.view-view.result ≡ opening_state c.args.turns.image.now = c.view-view.ensures.state ∙ c.requires.opening in
    ap (λ (l : List ℕ). length l) c.as_mut_slice.ensures.value ∙ (c.in_ok-places.ensures.count
    ∙ (ap (λ (s : MachineState). length s.harts) opening
    ∙ (opening_harts c.args.turns.image.now ∙ ap (λ (i : ImageParts). length i.harts) (sym c.in_ok-graph.ensures.image))))

pub replay-requires-clause-places : goal.replay-requires-clause-places
replay-requires-clause-places c =
    let opening : state_of c.view-view.result ≡ opening_state c.args.turns.image.now = c.view-view.ensures.state ∙ c.requires.opening in
    let lent : length c.as_mut_slice.result.now ≡ length c.in_ok-places.places.items =
    ap (λ (l : List ℕ). length l) c.as_mut_slice.ensures.value in
    let size = c.placed_node.ensures.places in
    let count : c.in_ok-places.places.len ≡ length c.placed_node.new.places = omega (arith, c.in_ok-places.places.ok.0) in
    ap (λ (l : List ℕ). length l) (c.as_mut_slice-3.ensures.value
    ∙ row_back c.in_ok-places.places.len c.placed_node.new.places c.in_ok-places.places.items count)
    ∙ (size ∙ (lent ∙ (c.in_ok-places.ensures.count
    ∙ (ap (λ (s : MachineState). length s.harts) opening
    ∙ (opening_harts c.args.turns.image.now ∙ ap (λ (i : ImageParts). length i.harts)
    (sym (c.placed_node.ensures.remembers.graph.image ∙ c.in_ok-graph.ensures.image)))))))

pub replay-requires-clause-labels : goal.replay-requires-clause-labels
replay-requires-clause-labels c i label at =
    subst (λ (j : ImageParts). label < length j.harts)
    (sym (c.placed_node.ensures.remembers.graph.image ∙ c.in_ok-graph.ensures.image)) (c.requires.labels i label at)

pub returns : goal.returns
returns c =
    let image = c.args.turns.image.now in
    let sees = c.args.turns.sees.now in
    let live = c.args.turns.live.now in
    let groups = c.args.turns.groups in
    let made = c.in_ok-graph.ensures in
    let kept = c.placed_node.ensures.remembers in
    let graph = c.placed_node.new.self in
    let opening : state_of c.view-view.result ≡ opening_state image = c.view-view.ensures.state ∙ c.requires.opening in
    let start : state_in graph c.as_mut_slice-2.result.now ≡ Some (grouped_start image sees live groups) =
    ap (state_in graph) c.as_mut_slice-2.ensures.value ∙ (c.in_ok-row.ensures.node
    ∙ ap (λ (s : MachineState). Some s) (start_is c.in_ok-graph.graph image sees live groups (state_of c.view-view.result)
    made.live made.groups made.image made.sweeps made.sight opening)) in
    let lent : length c.as_mut_slice.result.now ≡ length c.in_ok-places.places.items =
    ap (λ (l : List ℕ). length l) c.as_mut_slice.ensures.value in
    let size = c.placed_node.ensures.places in
    let count : c.in_ok-places.places.len ≡ length c.placed_node.new.places = omega (arith, c.in_ok-places.places.ok.0) in
    let given = c.as_mut_slice-3.ensures.value
    ∙ row_back c.in_ok-places.places.len c.placed_node.new.places c.in_ok-places.places.items count in
    let moved = subst (λ (gs : List ℕ). AreMoved gs (forgotten_start image sees live) c.as_mut_slice.result.now
    c.placed_node.new.places) made.groups
    (subst (λ (s : MachineState). AreMoved c.in_ok-graph.graph.groups s c.as_mut_slice.result.now c.placed_node.new.places)
    (forgotten_start_is c.in_ok-graph.graph image sees live (state_of c.view-view.result) made.live made.image made.sweeps
    made.sight opening) (λ i. c.in_ok-row.ensures.moved i)) in
    let each = subst (λ (l : List ℕ). (i : ℕ) → place_of l i ≡ i) (sym c.as_mut_slice.ensures.value)
    (λ i. c.in_ok-places.ensures.own i) in
    IfOk-weaker c.replay.result
    (λ (told : Vec ℕ Global). (s : MachineState) → state_in graph c.as_mut_slice-2.result.now ≡ Some s →
    told.items ≡ own (forgotten_in graph) graph.groups c.as_mut_slice-3.result.now s c.args.labels.now)
    (λ (told : Vec ℕ Global). told.items ≡ machine_labels image sees live groups c.args.labels.now)
    (λ told is. retold graph image sees live groups c.as_mut_slice-3.result.now c.placed_node.new.places
    c.as_mut_slice.result.now c.args.labels.now told.items
    (forgotten_of graph image sees live (kept.live ∙ made.live) (kept.graph.image ∙ made.image)
    (kept.graph.sweeps ∙ made.sweeps) (kept.graph.sight ∙ made.sight)) (kept.groups ∙ made.groups) given moved each
    (is (grouped_start image sees live groups) start))
    c.replay.ensures
