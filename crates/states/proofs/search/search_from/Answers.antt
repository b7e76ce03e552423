use Rattle.std.proofs.Common.{◌≡◌, ◌*◌, List, length, ap, sym, ◌∙◌}
use Rattle.std.specs.Prelude.{Some}
use Rattle.cap_model.specs.values.CapValue.{CapValue}
use Rattle.cheri_model.specs.runs.Image.{ImageParts}
use Rattle.cheri_model.specs.runs.Machine.{MachineState, opening_state}
use Rattle.explore_turns.specs.Turns.{rest_by}
use Rattle.hart.specs.View.{state_of}
use Rattle.states.specs.Graphs.{state_in}
use Rattle.states.specs.Searches.{search_of}
use Rattle.states.proofs.NodeLemmas.{turns_same, states_same}
use Rattle.states.proofs.OpeningLemmas.{opening_granules, opening_harts}
use Rattle.states.proofs.SearchLemmas.{turns_in}
use Rattle.states.proofs.search.search_from.Goals as goal

pub graph_of_turns-requires-clause-size : goal.graph_of_turns-requires-clause-size
graph_of_turns-requires-clause-size g c =
    let opening : state_of c.view-view.result ≡ opening_state c.args.search.now.image.now = c.view-view.ensures.state ∙ c.requires.opening in
    ap (λ (m : List CapValue). 16 * length m) (ap (λ (s : MachineState). s.memory) opening)
    ∙ opening_granules c.args.search.now.image.now c.granules-granules.ensures.formed

pub node-requires-clause-harts : goal.node-requires-clause-harts
node-requires-clause-harts g c =
    let opening : state_of c.view-view.result ≡ opening_state c.args.search.now.image.now = c.view-view.ensures.state ∙ c.requires.opening in
    ap (λ (s : MachineState). length s.harts) opening
    ∙ (opening_harts c.args.search.now.image.now
    ∙ ap (λ (i : ImageParts). length i.harts) (sym c.in_ok-graph.ensures.turns.image_is))

pub search-requires-clause-edges : goal.search-requires-clause-edges
search-requires-clause-edges g c =
    let graph = c.in_ok-graph.ensures.turns in
    let turns = c.in_ok-turns.ensures in
    turns_same c.node.new.self c.in_ok-turns.turns.image c.in_ok-turns.turns.sweeps.items c.in_ok-turns.turns.sight
    (c.node.ensures.continues.image ∙ (graph.image_is ∙ sym turns.image_is))
    (c.node.ensures.continues.sweeps ∙ (graph.sweeps_are ∙ sym turns.sweeps_are))
    (c.node.ensures.continues.sight ∙ (graph.sight_is ∙ sym turns.sight_is))

pub search-requires-clause-harts : goal.search-requires-clause-harts
search-requires-clause-harts g c =
    ap (λ (i : ImageParts). length i.harts)
    (c.node.ensures.continues.image ∙ (c.in_ok-graph.ensures.turns.image_is ∙ sym c.in_ok-turns.ensures.image_is))

pub search-requires-clause-opening : goal.search-requires-clause-opening
search-requires-clause-opening g c =
    let graph = c.in_ok-graph.ensures.turns in
    let turns = c.in_ok-turns.ensures in
    let to = c.in_ok-turns.turns in
    let opening : state_of c.view-view.result ≡ opening_state to.image =
    c.view-view.ensures.state ∙ (c.requires.opening ∙ ap (λ (i : ImageParts). opening_state i) (sym turns.image_is)) in
    ap (state_in c.node.new.self) c.as_slice.ensures.value
    ∙ (c.in_ok-start.ensures.node
    ∙ ap (λ (s : MachineState). Some s)
    (states_same c.in_ok-graph.graph to.image to.sweeps.items to.sight (state_of c.view-view.result)
    (graph.image_is ∙ sym turns.image_is) (graph.sweeps_are ∙ sym turns.sweeps_are) (graph.sight_is ∙ sym turns.sight_is)
    ∙ ap (λ (s : MachineState). rest_by to.image to.sweeps.items to.sight s) opening))

pub returns-clause-kept_of : goal.returns-clause-kept_of
returns-clause-kept_of g c =
    turns_in (search_of c.args.search.now) c.args.sees.now (λ k. k.image) (λ k. k.sweeps) (λ k. k.sight) c.in_ok-turns.turns.image
    c.in_ok-turns.turns.sweeps.items c.in_ok-turns.turns.sight c.search.result c.search.ensures.image c.search.ensures.sweeps
    c.search.ensures.sight c.in_ok-turns.ensures
