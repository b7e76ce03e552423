-- What is so of the nodes that a search kept.
use Rattle.std.proofs.Common.{◌≡◌, ℕ, ◌+◌, ◌<◌, ◌≤◌, List, [], length, arith, ap, sym, ◌∙◌, refl, subst, inl, inr}
use Rattle.std.specs.Prelude.{Bool, true, false, Option, Some, None, is_some, slice_get, option_map, option_and_then}
use Rattle.std.proofs.lemmas.Bool.{cases_Bool, cases_lt, both_ways}
use Rattle.std.proofs.lemmas.Option.{none-some}
use Rattle.cheri_model.specs.runs.Image.{ImageParts}
use Rattle.cheri_model.specs.runs.ImageRules.{is_image}
use Rattle.cheri_model.specs.runs.Machine.{MachineState, opening_state}
use Rattle.cheri_model.specs.runs.Replay.{replayed_state}
use Rattle.explore_sights.specs.declared.sights.Sight.{Sight}
use Rattle.explore_sights.specs.Sights.{hides}
use Rattle.explore_turns.specs.declared.quiet.TheConstants.{MAX_QUIET_STEPS}
use Rattle.forgotten_runs.specs.ForgottenRuns.{forgotten_state}
use Rattle.forgotten_turns.specs.ForgottenTurns.{HidesForgotten, PassesForgotten}
use Rattle.granule_states.specs.Graphs.{GranuleParts, Learns, is_shared, owner_of}
use Rattle.granule_states.specs.Graphs as granules
use Rattle.granule_states.specs.Owners.{RespectSome}
use Rattle.granule_states.proofs.WithinLemmas.{explored_within}
use Rattle.graph_search.specs.declared.edges.Edge.{Edge}
use Rattle.graph_search.specs.Searches.{IsExplored, Reaches}
use Rattle.graph_search.specs.Trees.{Found, IsFound, edge_at, state_at}
use Rattle.graph_search.specs.Walks.{IsReachable}
use Rattle.live_registers.specs.LiveSets.{IsRight, LiveSets}
use Rattle.own_granules.specs.Turns.{KeepsPassing, rest_of}
use Rattle.owned_turns.specs.OwnedTurns.{owned_start, owned_turn}
use Rattle.owned_turns.proofs.SearchLemmas.{order_reached, rest_passes}
use Rattle.schedules.proofs.WalkLemmas.{next_beyond}
use Rattle.state_store.specs.Stores.{state_of}
use Rattle.state_store.proofs.NumberedLemmas.{map_some, then_some}
use Rattle.states.specs.Kept.{NonePasses}
use Rattle.states.proofs.NodeLemmas.{node_of}
use Rattle.states.proofs.NodeLemmas as nodes
use Rattle.states.proofs.NumberLemmas.{same_numbers}
use Rattle.states.proofs.SizeLemmas.{sizes_of}
use Rattle.owned_search.specs.Graphs.{ForgettingParts, IsGraphOf, PlacedState, Remembers, placed, placed_in, placed_turn, start_in, state_in, turn_in}
use Rattle.owned_search.specs.Nodes.{AreAlike, AreAllOwned, AreGranuleNodes, AreNodes, AreSomeOwned, IsFirstPassing, IsScanned, NonePassesBefore, at, harts_in}
use Rattle.owned_search.proofs.GraphLemmas.{alike_remembers, graph_alike, graph_to}
use Rattle.owned_search.proofs.PlacedLemmas.{placed_edges}

-- ---- what a search that knows nothing of the graph found

alike_placed : (g h : ForgettingParts) (s t : MachineState) → placed h s ≡ placed g t → AreAlike g h
alike_placed g h s t same = record {
  image_is = ap (λ (p : PlacedState). p.image) same;
  sight_is = ap (λ (p : PlacedState). p.sight) same;
  live_is = ap (λ (p : PlacedState). p.live) same;
  shared_is = ap (λ (p : PlacedState). p.shared) same;
}

pub placed_at : (g : ForgettingParts) (nodes : List (List ℕ)) (i : ℕ) →
    state_at (placed_in g) nodes i ≡ option_map (placed g) (state_at (state_in g) nodes i)
placed_at g nodes i = is (slice_get nodes i) where
  is : (o : Option (List ℕ)) → option_and_then (placed_in g) o ≡ option_map (placed g) (option_and_then (state_in g) o)
  is None = refl
  is (Some row) = refl

placed_one : (g : ForgettingParts) (s t : MachineState) → placed g s ≡ placed g t → s ≡ t
placed_one g s t same = ap (λ (p : PlacedState). p.state) same

module _ (first g : ForgettingParts) (alike : AreAlike first g) where
  to_first : {X : Type 0} (f : ImageParts → Sight → LiveSets → List Bool → X) →
      f g.graph.graph.image g.graph.sight g.live g.graph.shared
      ≡ f first.graph.graph.image first.graph.sight first.live first.graph.shared
  to_first f =
      graph_to first.graph.graph.image first.graph.sight first.live first.graph.shared g alike f

  pub start_alike : start_in g ≡ start_in first
  start_alike =
      to_first (λ (i : ImageParts) (x : Sight) (l : LiveSets) (bs : List Bool). owned_start i (is_shared bs) x l)

  placed_alike : (s : MachineState) → placed g s ≡ placed first s
  placed_alike s =
      to_first (λ (i : ImageParts) (x : Sight) (l : LiveSets) (bs : List Bool). record {
        image = i;
        sight = x;
        live = l;
        shared = bs;
        state = s;
      })

-- the search, seen as one of the machine's turns: `first` is the graph before it, and `g` that after it
explored_turns : (first g : ForgettingParts) (nodes : List (List ℕ)) (limit : ℕ) (edge : ℕ → Edge) (finished : Bool) →
    IsExplored (placed_turn (harts_in g)) (placed first (start_in first)) limit (state_at (placed_in g) nodes) edge (length nodes)
    finished →
    AreAlike first g
    × IsExplored (turn_in g) (start_in g) limit (state_at (state_in g) nodes) edge (length nodes) finished
explored_turns first g nodes limit edge finished explored =
    let start = start_in first in
    let row = then_some (placed_in g) (slice_get nodes 0) (placed first start) explored.first in
    let s = map_some (placed g) (state_in g row.0) (placed first start) row.2 in
    let alike = alike_placed first g s.0 start s.2 in
    let begun : IsExplored (placed_turn (harts_in g)) (placed g start) limit (state_at (placed_in g) nodes) edge
    (length nodes) finished =
    subst (λ (p : PlacedState). IsExplored (placed_turn (harts_in g)) p limit (state_at (placed_in g) nodes) edge
    (length nodes) finished) (sym (placed_alike first g alike start)) explored in
    let within = explored_within (placed g) (placed_one g) (turn_in g) (placed_turn (harts_in g)) (placed_edges g)
    (state_at (state_in g) nodes) (state_at (placed_in g) nodes) (placed_at g nodes) start limit edge (length nodes)
    finished begun in (
      alike,
      subst (λ (x : MachineState). IsExplored (turn_in g) x limit (state_at (state_in g) nodes) edge (length nodes) finished)
          (sym (start_alike first g alike)) within,
    )

pub nodes_found : (first g : ForgettingParts) (found : Found) (limit : ℕ) → is_image first.graph.graph.image ≡ true →
    IsExplored (placed_turn (harts_in g)) (placed first (start_in first)) limit (state_at (placed_in g) found.nodes)
    (edge_at found.edges) (length found.nodes) found.complete → found.width ≡ harts_in g + 1 →
    Reaches (placed_turn (harts_in g)) (placed_in g) limit (length found.nodes) found.nodes found.edges found.cut →
    AreAlike first g × AreNodes g found limit
nodes_found first g found limit formed explored wide stands =
    let met = explored_turns first g found.nodes limit (edge_at found.edges) found.complete explored in (
      met.0,
      record {
        formed = subst (λ (i : ImageParts). is_image i ≡ true) (sym met.0.image_is) formed;
        nodes = met.1;
        wide = wide;
        stands = stands;
      },
    )

-- the same of a search from where turns begin
pub nodes_begun : (image : ImageParts) (sight : Sight) (live : LiveSets) (shared : List Bool) (first g : ForgettingParts)
    (row : List ℕ) (found : Found) (limit : ℕ) → is_image image ≡ true → IsGraphOf image sight live shared first →
    state_in first row ≡ Some (start_in first) →
    ((p : PlacedState) → placed_in first row ≡ Some p →
    IsExplored (placed_turn (harts_in g)) p limit (state_at (placed_in g) found.nodes) (edge_at found.edges)
    (length found.nodes) found.complete) → found.width ≡ harts_in g + 1 →
    Reaches (placed_turn (harts_in g)) (placed_in g) limit (length found.nodes) found.nodes found.edges found.cut →
    IsGraphOf image sight live shared g × AreNodes g found limit
nodes_begun image sight live shared first g row found limit formed of begins explored wide stands =
    let met = nodes_found first g found limit (subst (λ (i : ImageParts). is_image i ≡ true) (sym of.image_is) formed)
    (explored (placed first (start_in first)) (ap (option_map (placed first)) begins)) wide stands in
    (graph_alike image sight live shared first g of met.0, met.1)

-- the first node, from which a search goes on
pub first_placed : (g : ForgettingParts) (found : Found) (limit : ℕ) → AreNodes g found limit →
    state_at (placed_in g) found.nodes 0 ≡ Some (placed g (start_in g))
first_placed g found limit are = placed_at g found.nodes 0 ∙ ap (option_map (placed g)) are.nodes.first

-- a search that went on keeps the numbers of its nodes
pub numbers_kept : (g h : ForgettingParts) (before after : Found) (limit more : ℕ) →
    placed_turn (harts_in h) ≡ placed_turn (harts_in g) → AreAlike g h → AreNodes g before limit → AreNodes h after more →
    length before.nodes ≤ more → (i : ℕ) → i < length before.nodes → at h after i ≡ at g before i
numbers_kept g h before after limit more same alike old new enough i below =
    let stands = subst (λ (f : PlacedState → ℕ → Option PlacedState). Reaches f (placed_in g) limit
    (length before.nodes) before.nodes before.edges before.cut) (sym same) old.stands in
    let start : placed h (start_in h) ≡ placed g (start_in g) =
    placed_alike g h alike (start_in h) ∙ ap (placed g) (start_alike g h alike) in
    let first : state_at (placed_in g) before.nodes 0 ≡ state_at (placed_in h) after.nodes 0 =
    first_placed g before limit old
    ∙ (ap (λ (p : PlacedState). Some p) (sym start) ∙ sym (first_placed h after more new)) in
    let there = same_numbers (placed_turn (harts_in h)) (placed_in g) (placed_in h) limit more before.nodes after.nodes before.edges
    after.edges before.cut after.cut stands new.stands enough first i below in
    let s = old.nodes.meant i below in
    let was : state_at (placed_in g) before.nodes i ≡ Some (placed g s.0) =
    placed_at g before.nodes i ∙ ap (option_map (placed g)) s.1 in
    let t = map_some (placed h) (at h after i) (placed g s.0) (sym (placed_at h after.nodes i) ∙ (there ∙ was)) in
    t.1 ∙ (ap (λ (p : PlacedState). Some p.state) t.2 ∙ sym s.1)

-- ---- what is so of nodes

pub short : (g : ForgettingParts) (found : Found) (limit : ℕ) → AreNodes g found limit → found.width ≤ 9
short g found limit are =
    let few = (sizes_of g.graph.graph.image are.formed).harts_few in
    let wide = are.wide in
    omega arith

-- What is seen of the state in a row.
pub record IsSeen (g : ForgettingParts) (found : Found) (number : ℕ) (row : List ℕ) : Type 0 where
  pub state : MachineState
  pub node : at g found number ≡ Some state
  pub means : state_of g.graph.graph.store row ≡ Some state

pub seen_node : (g : ForgettingParts) (found : Found) (limit : ℕ) → AreNodes g found limit → (number : ℕ) (row : List ℕ) →
    number < length found.nodes → slice_get found.nodes number ≡ Some row → IsSeen g found number row
seen_node g found limit are number row below is =
    let meant = are.nodes.meant number below in
    let here : state_in g row ≡ Some meant.0 = sym (ap (option_and_then (state_in g)) is) ∙ meant.1 in
    record { state = meant.0; node = meant.1; means = (node_of g.graph.graph row meant.0 here).state }

-- no node comes before the first
pub none_before : (nodes : ℕ → Option MachineState) (passing : MachineState → Bool) → NonePassesBefore nodes passing 0
none_before nodes passing i s below there = absurd (omega arith)

-- of nodes that keep their numbers none passes that didn't before
pub none_so_far : (before after : ℕ → Option MachineState) (count : ℕ) (passing : MachineState → Bool) (first : Option ℕ)
    (number : ℕ) → ((i : ℕ) → i < count → after i ≡ before i) → IsFirstPassing before count passing first →
    is_some first ≡ false → number ≡ count → NonePassesBefore after passing number
none_so_far before after count passing None number keeps first none is i s below there =
    first i s (sym (keeps i (subst (λ (n : ℕ). i < n) is below)) ∙ there)
none_so_far before after count passing (Some k) number keeps first none is i s below there = absurd (cc)

-- ---- whether they are all

-- where all steps that a whole search met respect some owners
pub all_owned : (g : ForgettingParts) (found : Found) (limit : ℕ) (opening : MachineState) → AreNodes g found limit →
    opening ≡ opening_state g.graph.graph.image → found.complete ≡ true → RespectSome g.graph opening (at g found) → AreAllOwned g found
all_owned g found limit opening are is done some =
    let image = g.graph.graph.image in
    let here : RespectSome g.graph (opening_state image) (at g found) =
    subst (λ (x : MachineState). RespectSome g.graph x (at g found)) is some in
    let respect = here.1 in (
      done,
      (
        here.0,
        record {
          opening = respect.ways;
          edges = λ s l reached t goes.
              let node = are.nodes.complete done s reached in
              elim (cases_lt l (length image.harts)) [
                | inl low ↦ respect.nodes node.0 s node.1 l low t goes
                | inr past ↦
                    let beyond : length image.harts + 0 ≤ l = omega arith in
                    absurd (none-some t (sym (next_beyond image [] s l beyond) ∙ goes))
              ];
        },
      ),
    )

-- where these nodes are all, and none passes, no state passes that an order leaves
pub none_passes : (image : ImageParts) (shared : List Bool) (sight : Sight) (live : LiveSets) → is_image image ≡ true →
    IsRight image.program live → HidesForgotten live (hides sight) → AreSomeOwned image shared sight live →
    (nodes : ℕ → Option MachineState) →
    ((s : MachineState) → IsReachable (owned_turn image (is_shared shared) sight live)
    (owned_start image (is_shared shared) sight live) s → IsFound nodes s) →
    (passing : MachineState → Bool) → KeepsPassing image [] (is_shared shared) (hides sight) passing → PassesForgotten live passing →
    ((i : ℕ) (s : MachineState) → nodes i ≡ Some s → passing s ≡ false) → NonePasses image [] passing
none_passes image shared sight live formed right hidden owned nodes all passing keeps same none order allowed legal =
    let s = replayed_state image order in
    let rest = forgotten_state live (rest_of image [] (is_shared shared) (hides sight) MAX_QUIET_STEPS s) in
    elim (cases_Bool (passing s)) [
      | inl holds ↦
          let there = all rest (order_reached image (is_shared shared) sight live right hidden (owner_of owned.0) owned.1 order formed
          allowed legal) in
          absurd (both_ways (passing rest) (none there.0 rest there.1)
          (rest_passes image (is_shared shared) sight live passing keeps same s holds))
      | inr fails ↦ fails
    ]

-- ---- where a search begins

-- the graph, once the harts of the opening state are at their rest and have forgotten
pub begun_graph : (image : ImageParts) (sight : Sight) (live : LiveSets) (shared : List Bool) (g h : GranuleParts)
    (p q : ForgettingParts) → g.graph.image ≡ image → g.sight ≡ sight → g.shared ≡ shared → Learns g h → p.live ≡ live →
    p.graph ≡ h → Remembers p q → IsGraphOf image sight live shared q
begun_graph image sight live shared g h p q image_is sight_is shared_is learns live_is same remembers = record {
  image_is = remembers.graph.graph.image
      ∙ (ap (λ (x : GranuleParts). x.graph.image) same ∙ (learns.graph.image ∙ image_is));
  sight_is = remembers.graph.sight ∙ (ap (λ (x : GranuleParts). x.sight) same ∙ (learns.sight ∙ sight_is));
  live_is = remembers.live ∙ live_is;
  shared_is = remembers.graph.shared ∙ (ap (λ (x : GranuleParts). x.shared) same ∙ (learns.shared ∙ shared_is));
}

-- and its row
pub rested_row : (h : GranuleParts) (p : ForgettingParts) (row : List ℕ) → p.graph ≡ h →
    granules.state_in h row ≡ Some (granules.start_in h) → state_in p row ≡ Some (granules.start_in p.graph)
rested_row h p row same begun =
    ap (λ (x : GranuleParts). granules.state_in x row) same
    ∙ (begun ∙ ap (λ (x : GranuleParts). Some (granules.start_in x)) (sym same))

pub begun_row : (h : GranuleParts) (p q : ForgettingParts) (row after last : List ℕ) → p.graph ≡ h → Remembers p q →
    granules.state_in h row ≡ Some (granules.start_in h) →
    ((s : MachineState) → state_in p row ≡ Some s → state_in q after ≡ Some (forgotten_state p.live s)) → last ≡ after →
    state_in q last ≡ Some (start_in q)
begun_row h p q row after last same remembers begun forgets whole =
    ap (state_in q) whole
    ∙ (forgets (granules.start_in p.graph) (rested_row h p row same begun)
    ∙ ap (λ (s : MachineState). Some s) (sym (start_alike p q (alike_remembers p q remembers))))

-- ---- a scan of nodes

pub granule_nodes : (g : ForgettingParts) (found : Found) (limit : ℕ) → AreNodes g found limit → (h : GranuleParts) → h ≡ g.graph →
    AreGranuleNodes h found
granule_nodes g found limit are h same =
    subst (λ (x : GranuleParts). AreGranuleNodes x found) (sym same) (record {
      formed = are.formed;
      short = short g found limit are;
      meant = λ i low. let s = are.nodes.meant i low in nodes.is_some (state_at (state_in g) found.nodes i) s.0 s.1;
    })

pub scanned : (g : ForgettingParts) (found : Found) (limit : ℕ) → AreNodes g found limit → (h : GranuleParts) → h ≡ g.graph →
    IsScanned h found → AreAllOwned g found
scanned g found limit are h same is =
    let here = subst (λ (x : GranuleParts). IsScanned x found) same is in
    all_owned g found limit (opening_state g.graph.graph.image) are refl here.complete here.owned
