-- What is so of the states that a search kept.
use Rattle.std.proofs.Common.{◌≡◌, ℕ, ◌+◌, ◌<◌, ◌≤◌, List, [], length, arith, ap, sym, ◌∙◌, refl, subst, inl, inr}
use Rattle.std.specs.Prelude.{Bool, true, Option, Some, None, IsSome, slice_get, option_map, option_and_then}
use Rattle.std.proofs.lemmas.Bool.{cases_lt}
use Rattle.std.proofs.lemmas.Option.{none-some, slice_get_within}
use Rattle.cheri_model.specs.runs.Image.{ImageParts}
use Rattle.cheri_model.specs.runs.ImageRules.{is_image}
use Rattle.cheri_model.specs.runs.Machine.{MachineState, opening_state}
use Rattle.cheri_model.specs.runs.Replay.{replayed_state}
use Rattle.explore_sights.specs.declared.sights.Sight.{Sight}
use Rattle.explore_sights.specs.Sights.{hides}
use Rattle.explore_turns.specs.declared.quiet.TheConstants.{MAX_QUIET_STEPS}
use Rattle.graph_search.specs.declared.edges.Edge.{Edge}
use Rattle.graph_search.specs.Searches.{IsExplored}
use Rattle.graph_search.specs.Trees.{Found, edge_at, state_at}
use Rattle.own_granules.specs.Rests.{rest_first}
use Rattle.own_granules.specs.Turns.{AreOwned, order_of_turns, rest_of, turn}
use Rattle.own_granules.proofs.HeldLemmas.{order_leads, stopped_rest}
use Rattle.own_granules.proofs.KeptLemmas.{none_kept}
use Rattle.own_granules.proofs.SearchLemmas.{rests_found}
use Rattle.schedules.proofs.WalkLemmas.{next_beyond, reachable_replayed, replayed_reachable}
use Rattle.state_store.proofs.NumberedLemmas.{map_some, some_of, then_some}
use Rattle.granule_states.specs.Graphs.{GranuleParts, Learns, Placed, is_shared, owner_of, placed, placed_in, placed_turn, quiet_in, start_in, state_in, step_in, turn_in}
use Rattle.granule_states.specs.Owned.{AreAllKept, AreEndsKept, AreSomeOwned, AreSound, IsOwned, IsSearchOf, owned_of}
use Rattle.granule_states.specs.Owners.{RespectSome}
use Rattle.state_store.specs.Stores.{state_of}
use Rattle.states.proofs.NodeLemmas.{is_some, node_of}
use Rattle.states.proofs.SizeLemmas.{sizes_of}
use Rattle.granule_states.proofs.PlacedLemmas.{placed_edges}
use Rattle.granule_states.proofs.TurnLemmas.{state_learned}
use Rattle.granule_states.proofs.WithinLemmas.{explored_within}

-- where all steps that a whole search met respect some owners
pub respected_owned : (g : GranuleParts) (nodes : List (List ℕ)) (limit : ℕ) (edge : ℕ → Edge) (count : ℕ) →
    IsExplored (turn_in g) (start_in g) limit (state_at (state_in g) nodes) edge count true →
    RespectSome g (opening_state g.graph.image) (state_at (state_in g) nodes) → AreSomeOwned g
respected_owned g nodes limit edge count explored some =
    let owners = some.0 in
    let respect = some.1 in (
      owners,
      record {
        kept = none_kept (is_shared g.shared) 0 (opening_state g.graph.image).memory;
        met = record {
          opening = respect.ways;
          edges = λ s t l reached goes.
              let found = explored.complete refl s reached in
              elim (cases_lt l (length g.graph.image.harts)) [
                | inl low ↦ respect.nodes found.0 s found.1 l low t goes
                | inr past ↦
                    let beyond : length g.graph.image.harts + 0 ≤ l = omega arith in
                    absurd (none-some t (sym (next_beyond g.graph.image [] s l beyond) ∙ goes))
              ];
        };
      },
    )

-- ---- what a search that knows nothing of the graph found

-- the same image, question and shared granules
pub record AreAlike (g h : GranuleParts) : Type 0 where
  pub image : h.graph.image ≡ g.graph.image
  pub sight : h.sight ≡ g.sight
  pub shared : h.shared ≡ g.shared

pub alike_learned : (g h : GranuleParts) → Learns g h → AreAlike g h
alike_learned g h learns = record { image = learns.graph.image; sight = learns.sight; shared = learns.shared }

pub alike_on : (g h i : GranuleParts) → AreAlike g h → AreAlike h i → AreAlike g i
alike_on g h i one two = record {
  image = two.image ∙ one.image;
  sight = two.sight ∙ one.sight;
  shared = two.shared ∙ one.shared;
}

pub alike_to : {X : Type 0} (f : ImageParts → Sight → List Bool → X) (g h : GranuleParts) → AreAlike g h →
    f h.graph.image h.sight h.shared ≡ f g.graph.image g.sight g.shared
alike_to f g h alike =
    ap (λ (i : ImageParts). f i h.sight h.shared) alike.image
    ∙ (ap (λ (x : Sight). f g.graph.image x h.shared) alike.sight
    ∙ ap (λ (bs : List Bool). f g.graph.image g.sight bs) alike.shared)

pub alike_placed : (g h : GranuleParts) (s t : MachineState) → placed h s ≡ placed g t → AreAlike g h
alike_placed g h s t same = record {
  image = ap (λ (p : Placed). p.image) same;
  sight = ap (λ (p : Placed). p.sight) same;
  shared = ap (λ (p : Placed). p.shared) same;
}

pub owned_alike : (g h : GranuleParts) → AreAlike g h → AreSomeOwned g → AreSomeOwned h
owned_alike g h alike some = (
  some.0,
  subst (λ (i : ImageParts). AreOwned i [] (is_shared h.shared) (owner_of some.0) (hides h.sight) MAX_QUIET_STEPS) (sym alike.image)
      (subst (λ (x : Sight). AreOwned g.graph.image [] (is_shared h.shared) (owner_of some.0) (hides x) MAX_QUIET_STEPS) (sym alike.sight)
      (subst (λ (bs : List Bool). AreOwned g.graph.image [] (is_shared bs) (owner_of some.0) (hides g.sight) MAX_QUIET_STEPS)
      (sym alike.shared) some.1)),
)

-- what nodes mean, in a graph that learned more
at_learned : (g h : GranuleParts) → Learns g h → (nodes : List (List ℕ)) →
    ((i : ℕ) → i < length nodes → IsSome (state_at (state_in g) nodes i)) → (i : ℕ) →
    state_at (state_in g) nodes i ≡ state_at (state_in h) nodes i
at_learned g h learns nodes meant i = is (slice_get nodes i) refl where
  is : (o : Option (List ℕ)) → slice_get nodes i ≡ o →
      option_and_then (state_in g) (slice_get nodes i) ≡ option_and_then (state_in h) (slice_get nodes i)
  is None none = ap (option_and_then (state_in g)) none ∙ sym (ap (option_and_then (state_in h)) none)
  is (Some row) some =
      let low : i < length nodes = slice_get_within nodes i row some in
      let s = some_of (state_at (state_in g) nodes i) (meant i low) in
      let here : state_in g row ≡ Some s.0 = sym (ap (option_and_then (state_in g)) some) ∙ s.1 in
      s.1 ∙ sym (ap (option_and_then (state_in h)) some ∙ state_learned g h learns row s.0 here)

pub placed_at : (g : GranuleParts) (nodes : List (List ℕ)) (i : ℕ) →
    state_at (placed_in g) nodes i ≡ option_map (placed g) (state_at (state_in g) nodes i)
placed_at g nodes i = is (slice_get nodes i) where
  is : (o : Option (List ℕ)) → option_and_then (placed_in g) o ≡ option_map (placed g) (option_and_then (state_in g) o)
  is None = refl
  is (Some row) = refl

pub placed_one : (g : GranuleParts) (s t : MachineState) → placed g s ≡ placed g t → s ≡ t
placed_one g s t same = ap (λ (p : Placed). p.state) same

start_alike : (g h : GranuleParts) → AreAlike g h → start_in h ≡ start_in g
start_alike g h alike =
    alike_to (λ (i : ImageParts) (x : Sight) (bs : List Bool). rest_of i [] (is_shared bs) (hides x) MAX_QUIET_STEPS (opening_state i))
    g h alike

-- the search, seen as one of the machine's turns: `first` is the graph before it, and `g` that after it
explored_turns : (first g : GranuleParts) (start : MachineState) (nodes : List (List ℕ)) (limit : ℕ) (edge : ℕ → Edge)
    (finished : Bool) → start ≡ start_in first →
    IsExplored (placed_turn (length g.graph.image.harts)) (placed first start) limit (state_at (placed_in g) nodes) edge (length nodes)
    finished →
    AreAlike first g
    × IsExplored (turn_in g) (start_in g) limit (state_at (state_in g) nodes) edge (length nodes) finished
explored_turns first g start nodes limit edge finished begins explored =
    let row = then_some (placed_in g) (slice_get nodes 0) (placed first start) explored.first in
    let s = map_some (placed g) (state_in g row.0) (placed first start) row.2 in
    let alike = alike_placed first g s.0 start s.2 in
    let here : placed first start ≡ placed g start =
    sym (alike_to (λ (i : ImageParts) (x : Sight) (bs : List Bool). record { image = i; sight = x; shared = bs; state = start })
    first g alike) in
    let begun : IsExplored (placed_turn (length g.graph.image.harts)) (placed g start) limit (state_at (placed_in g) nodes) edge
    (length nodes) finished =
    subst (λ (p : Placed). IsExplored (placed_turn (length g.graph.image.harts)) p limit (state_at (placed_in g) nodes) edge
    (length nodes) finished) here explored in
    let within = explored_within (placed g) (placed_one g) (turn_in g) (placed_turn (length g.graph.image.harts)) (placed_edges g)
    (state_at (state_in g) nodes) (state_at (placed_in g) nodes) (placed_at g nodes) start limit edge (length nodes)
    finished begun in (
      alike,
      subst (λ (x : MachineState). IsExplored (turn_in g) x limit (state_at (state_in g) nodes) edge (length nodes) finished)
          (begins ∙ sym (start_alike first g alike)) within,
    )

-- where a search begins: in the graph `g` the row was that of the opening state, and in `h` all harts are at their rest
pub begun_at : (image : ImageParts) (g h : GranuleParts) (row after : List ℕ) → g.graph.image ≡ image → Learns g h → row ≡ after →
    state_in h after ≡ Some (rest_first (step_in g) (quiet_in g) MAX_QUIET_STEPS (length g.graph.image.harts) (opening_state image)) →
    state_in h row ≡ Some (start_in h)
begun_at image g h row after of learns same rests =
    ap (state_in h) same
    ∙ (rests
    ∙ (ap (λ (i : ImageParts). Some (rest_first (step_in g) (quiet_in g) MAX_QUIET_STEPS (length g.graph.image.harts)
    (opening_state i))) (sym of)
    ∙ ap (λ (x : MachineState). Some x) (sym (start_alike g h (alike_learned g h learns)))))

-- what it found, where it began so, in the graph `i`
pub searched_by : (image : ImageParts) (sight : Sight) (g h i : GranuleParts) (row : List ℕ) (found : Found) (limit : ℕ) →
    g.graph.image ≡ image → g.sight ≡ sight → Learns g h → state_in h row ≡ Some (start_in h) →
    ((p : Placed) → placed_in h row ≡ Some p →
    IsExplored (placed_turn (length i.graph.image.harts)) p limit (state_at (placed_in i) found.nodes) (edge_at found.edges)
    (length found.nodes) found.complete) → found.width ≡ length i.graph.image.harts + 1 →
    IsSearchOf image sight i found limit
searched_by image sight g h i row found limit of seen learns start explored wide =
    let met = explored_turns h i (start_in h) found.nodes limit (edge_at found.edges) found.complete refl
    (explored (placed h (start_in h)) (ap (option_map (placed h)) start)) in
    record {
      image_is = met.0.image ∙ (learns.graph.image ∙ of);
      sight_is = met.0.sight ∙ (learns.sight ∙ seen);
      wide = wide;
      search = met.1;
    }

pub same_option : {A : Type 0} (o : Option A) → o ≡ option_map (λ (x : A). x) o
same_option None = refl
same_option (Some x) = refl

pub turns_alike : (g h : GranuleParts) → AreAlike g h → turn_in h ≡ turn_in g
turns_alike g h alike =
    alike_to (λ (i : ImageParts) (x : Sight) (bs : List Bool). turn i [] (is_shared bs) (hides x) MAX_QUIET_STEPS) g h alike

-- it is the same in a graph that is alike, and whose nodes mean the same
pub search_alike : (g h : GranuleParts) (found : Found) (limit : ℕ) → AreAlike g h →
    ((i : ℕ) → state_at (state_in g) found.nodes i ≡ state_at (state_in h) found.nodes i) →
    IsExplored (turn_in g) (start_in g) limit (state_at (state_in g) found.nodes) (edge_at found.edges) (length found.nodes)
    found.complete →
    IsExplored (turn_in h) (start_in h) limit (state_at (state_in h) found.nodes) (edge_at found.edges) (length found.nodes)
    found.complete
search_alike g h found limit alike same is =
    let at = state_at (state_in h) found.nodes in
    let edge = edge_at found.edges in
    let count = length found.nodes in
    let within : IsExplored (turn_in g) (start_in g) limit at edge count found.complete =
    explored_within (λ (s : MachineState). s) (λ s t equal. equal) (turn_in g) (turn_in g) (λ s l. same_option (turn_in g s l)) at
    (state_at (state_in g) found.nodes) (λ i. same i ∙ same_option (at i)) (start_in g) limit edge count found.complete is in
    subst (λ (f : MachineState → ℕ → Option MachineState). IsExplored f (start_in h) limit at edge count found.complete)
    (sym (turns_alike g h alike))
    (subst (λ (x : MachineState). IsExplored (turn_in g) x limit at edge count found.complete) (sym (start_alike g h alike)) within)

-- in a graph that learned more it is what it was
pub search_learned : (image : ImageParts) (sight : Sight) (g h : GranuleParts) (found : Found) (limit : ℕ) → Learns g h →
    IsSearchOf image sight g found limit → IsSearchOf image sight h found limit
search_learned image sight g h found limit learns is =
    let meant : (i : ℕ) → i < length found.nodes → IsSome (state_at (state_in g) found.nodes i) = λ i low.
    let s = is.search.meant i low in is_some (state_at (state_in g) found.nodes i) s.0 s.1 in
    record {
      image_is = learns.graph.image ∙ is.image_is;
      sight_is = learns.sight ∙ is.sight_is;
      wide = is.wide ∙ ap (λ (i : ImageParts). length i.harts + 1) (sym learns.graph.image);
      search = search_alike g h found limit (alike_learned g h learns) (at_learned g h learns found.nodes meant) is.search;
    }

-- What is so of it: how many harts and numbers there are, and that each node has a state.
pub record SearchSizes (graph : GranuleParts) (found : Found) : Type 0 where
  pub harts_few : length graph.graph.image.harts ≤ 8
  pub short : found.width ≤ 9
  pub meant : (i : ℕ) → i < length found.nodes → IsSome (state_at (state_in graph) found.nodes i)

pub search_sizes : (image : ImageParts) (sight : Sight) (g : GranuleParts) (found : Found) (limit : ℕ) → is_image image ≡ true →
    IsSearchOf image sight g found limit → SearchSizes g found
search_sizes image sight g found limit formed is =
    let few = (sizes_of image formed).harts_few in
    let same = ap (λ (i : ImageParts). length i.harts) is.image_is in
    let wide = is.wide in
    record {
      harts_few = omega (arith, same, few);
      short = omega (arith, wide, same, few);
      meant = λ i low.
          let s = is.search.meant i low in is_some (state_at (state_in g) found.nodes i) s.0 s.1;
    }

-- all that was met respects some owners, where a check says so
pub owned_by : (image : ImageParts) (sight : Sight) (g h : GranuleParts) (opening : MachineState) (found : Found) (limit : ℕ) →
    IsSearchOf image sight g found limit → opening ≡ opening_state image → Learns g h → found.complete ≡ true →
    RespectSome g opening (state_at (state_in g) found.nodes) → AreSomeOwned h
owned_by image sight g h opening found limit searched is learns done some =
    let here : opening ≡ opening_state g.graph.image = is ∙ ap (λ (i : ImageParts). opening_state i) (sym searched.image_is) in
    owned_alike g h (alike_learned g h learns)
    (respected_owned g found.nodes limit (edge_at found.edges) (length found.nodes)
    (subst (λ (b : Bool). IsExplored (turn_in g) (start_in g) limit (state_at (state_in g) found.nodes) (edge_at found.edges)
    (length found.nodes) b) done searched.search)
    (subst (λ (x : MachineState). RespectSome g x (state_at (state_in g) found.nodes)) here some))

-- ---- what is so of them

pub are_sound : (g : GranuleParts) (found : Found) (limit : ℕ) (owned : Bool) → IsOwned g found limit owned →
    AreSound (owned_of g found limit owned)
are_sound g found limit owned is i s there =
    let reached = is.search.sound s (i, there) in
    let image = g.graph.image in
    reachable_replayed image [] s (
      order_of_turns image [] (is_shared g.shared) (hides g.sight) MAX_QUIET_STEPS reached.0,
      order_leads image [] (is_shared g.shared) (hides g.sight) MAX_QUIET_STEPS reached.0 s reached.1,
    )

pub all_kept : (g : GranuleParts) (found : Found) (limit : ℕ) (owned : Bool) → IsOwned g found limit owned →
    owned ≡ true → AreAllKept (owned_of g found limit owned)
all_kept g found limit owned is holds order allowed legal =
    let image = g.graph.image in
    let some = (is.respected holds).1 in
    is.search.complete (is.respected holds).0 (rest_of image [] (is_shared g.shared) (hides g.sight) MAX_QUIET_STEPS (replayed_state image order))
    (rests_found image [] (is_shared g.shared) (owner_of some.0) (hides g.sight) MAX_QUIET_STEPS is.formed some.1
    (replayed_state image order) (replayed_reachable image [] order allowed legal))

pub ends_kept : (g : GranuleParts) (found : Found) (limit : ℕ) (owned : Bool) → IsOwned g found limit owned →
    owned ≡ true → AreEndsKept (owned_of g found limit owned)
ends_kept g found limit owned is holds order allowed legal stopped =
    let image = g.graph.image in
    let all = all_kept g found limit owned is holds order allowed legal in (
      all.0,
      all.1 ∙ ap (λ (x : MachineState). Some x)
          (stopped_rest image [] (is_shared g.shared) (hides g.sight) MAX_QUIET_STEPS (replayed_state image order) stopped),
    )

pub kept_short : (g : GranuleParts) (found : Found) (limit : ℕ) (owned : Bool) → IsOwned g found limit owned → found.width ≤ 9
kept_short g found limit owned is =
    let few = (sizes_of g.graph.image is.formed).harts_few in
    let wide = is.wide in
    omega arith

-- the state of a row that was read
pub record SeenState (g : GranuleParts) (found : Found) (number : ℕ) (row : List ℕ) : Type 0 where
  pub state : MachineState
  pub there : state_at (state_in g) found.nodes number ≡ Some state
  pub means : state_of g.graph.store row ≡ Some state

pub seen_state : (g : GranuleParts) (found : Found) (limit : ℕ) (owned : Bool) → IsOwned g found limit owned → (number : ℕ)
    (row : List ℕ) → number < length found.nodes → slice_get found.nodes number ≡ Some row → SeenState g found number row
seen_state g found limit owned is number row below read =
    let s = is.search.meant number below in
    let here : state_in g row ≡ Some s.0 = sym (ap (option_and_then (state_in g)) read) ∙ s.1 in
    record { state = s.0; there = s.1; means = (node_of g.graph row s.0 here).state }
