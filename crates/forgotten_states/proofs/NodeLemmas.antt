-- What is so of the nodes that a search kept.
use Rattle.std.proofs.Common.{◌≡◌, ℕ, zero, suc, ◌+◌, ◌<◌, ◌≤◌, List, [], ◌∷◌, length, refl, ap, sym, ◌∙◌, subst, reverse, arith, inl, inr, nat_lt}
use Rattle.std.specs.Prelude.{Option, Some, None, Bool, false, slice_get, is_some, option_map}
use Rattle.std.proofs.lemmas.Bool.{cases_Bool, cases_lt, both_ways}
use Rattle.std.proofs.lemmas.Bool.Decides.{nat_tests}
use Rattle.std.proofs.lemmas.List.{reverse-reverse}
use Rattle.std.proofs.lemmas.Option.{none-some, same_Some, option_and_then_some}
use Rattle.cheri_model.specs.declared.operation.Op.{Op}
use Rattle.cheri_model.specs.declared.operation.Op.TheVariants as operation
use Rattle.cheri_model.specs.runs.Image.{ImageParts}
use Rattle.cheri_model.specs.runs.Machine.{MachineState, opening_state}
use Rattle.cheri_model.specs.runs.Replay.{replayed_state}
use Rattle.explore_sights.specs.declared.sights.Sight.{Sight}
use Rattle.explore_sights.specs.Sights.{hides}
use Rattle.explore_turns.specs.Orders.{AreOfHarts, order_of_turns}
use Rattle.explore_turns.specs.Turns.{KeepsPassing, rest_by}
use Rattle.explore_turns.proofs.OrderLemmas.{turn_beyond, turns_labelled}
use Rattle.forgotten_runs.specs.ForgottenRuns.{forgotten_state}
use Rattle.forgotten_turns.specs.ForgottenTurns.{HidesForgotten, PassesForgotten, forgotten_start}
use Rattle.forgotten_turns.proofs.OrderLemmas.{order_leads, walk_of_turns}
use Rattle.graph_search.specs.Searches.{IsExplored, Reaches}
use Rattle.graph_search.specs.Trees.{Found, IsFound, IsTrace, edge_at, state_at}
use Rattle.graph_search.specs.Walks.{IsReachable, IsWalk, IsWitness, after}
use Rattle.hart_order.specs.Arrangements.{arranged_state}
use Rattle.hart_order.specs.GroupedTurns.{grouped_start, grouped_turn, keeps_number, machine_labels}
use Rattle.hart_order.proofs.GroupedLemmas.{machine_walk, renames}
use Rattle.hart_symmetry.specs.Renaming.{IsRenaming, PassesRenamed}
use Rattle.hart_symmetry.proofs.TurnLemmas.{chosen_complete, chosen_passes}
use Rattle.live_registers.specs.LiveSets.{IsRight, LiveSets}
use Rattle.schedules.specs.Schedules.{AreLabelsOf, operation_of_label}
use Rattle.state_store.specs.Stores.{state_of}
use Rattle.state_store.proofs.NumberedLemmas.{then_some}
use Rattle.states.specs.Graphs.{rest_in}
use Rattle.states.specs.Kept.{NonePasses}
use Rattle.states.proofs.KeptLemmas.{harts_of_labels}
use Rattle.states.proofs.NodeLemmas.{node_of, states_same}
use Rattle.states.proofs.NumberLemmas.{same_numbers}
use Rattle.forgotten_states.specs.Graphs.{ForgottenParts, state_in, turn_in}
use Rattle.forgotten_states.specs.Nodes.{AreNodes, IsFirstPassing, NonePassesBefore, at}
use Rattle.forgotten_states.specs.Sought.{IsOrderTo}
use Rattle.forgotten_states.specs.Surveys.{AreTurnsTo}

-- the nodes of a graph that was searched
pub nodes_found : (image : ImageParts) (sight : Sight) (live : LiveSets) (groups : List ℕ) (g : ForgottenParts) (found : Found)
    (limit : ℕ) → turn_in g ≡ grouped_turn image sight live groups → length g.graph.image.harts ≡ length image.harts → length image.harts ≤ 8 →
    IsExplored (turn_in g) (grouped_start image sight live groups) limit (state_at (state_in g) found.nodes)
    (edge_at found.edges) (length found.nodes) found.complete →
    found.width ≡ length g.graph.image.harts + 1 →
    Reaches (turn_in g) (state_in g) limit (length found.nodes) found.nodes found.edges found.cut →
    AreNodes image sight live groups g found limit
nodes_found image sight live groups g found limit edges harts few explored wide stands = record {
  edges = edges;
  harts = harts;
  few = few;
  nodes = subst (λ (f : MachineState → ℕ → Option MachineState). IsExplored f (grouped_start image sight live groups) limit
      (state_at (state_in g) found.nodes) (edge_at found.edges) (length found.nodes) found.complete) edges explored;
  wide = wide ∙ ap (λ (n : ℕ). n + 1) harts;
  stands = stands;
}

-- where a graph's search begins
pub forgotten_start_is : (g : ForgottenParts) (image : ImageParts) (sight : Sight) (live : LiveSets) (s : MachineState) →
    g.live ≡ live → g.graph.image ≡ image → g.graph.sweeps ≡ [] → g.graph.sight ≡ sight → s ≡ opening_state image →
    forgotten_state g.live (rest_in g.graph s) ≡ forgotten_start image sight live
forgotten_start_is g image sight live s live_is image_is unswept sight_is opening =
    ap (λ (l : LiveSets). forgotten_state l (rest_in g.graph s)) live_is
    ∙ ap (forgotten_state live) (states_same g.graph image [] sight s image_is unswept sight_is
    ∙ ap (rest_by image [] sight) opening)

pub start_is : (g : ForgottenParts) (image : ImageParts) (sight : Sight) (live : LiveSets) (groups : List ℕ) (s : MachineState) →
    g.live ≡ live → g.groups ≡ groups → g.graph.image ≡ image → g.graph.sweeps ≡ [] → g.graph.sight ≡ sight →
    s ≡ opening_state image →
    arranged_state g.groups (forgotten_state g.live (rest_in g.graph s)) ≡ grouped_start image sight live groups
start_is g image sight live groups s live_is groups_are image_is unswept sight_is opening =
    ap (λ (gs : List ℕ). arranged_state gs (forgotten_state g.live (rest_in g.graph s))) groups_are
    ∙ ap (arranged_state groups) (forgotten_start_is g image sight live s live_is image_is unswept sight_is opening)

-- a search that went on keeps the numbers of its nodes
pub numbers_kept : (image : ImageParts) (sight : Sight) (live : LiveSets) (groups : List ℕ) (g h : ForgottenParts)
    (before after : Found) (limit more : ℕ) → turn_in h ≡ turn_in g → AreNodes image sight live groups g before limit →
    AreNodes image sight live groups h after more →
    length before.nodes ≤ more → (i : ℕ) → i < length before.nodes → at h after i ≡ at g before i
numbers_kept image sight live groups g h before after limit more same old new enough =
    let stands = subst (λ (f : MachineState → ℕ → Option MachineState). Reaches f (state_in g) limit
    (length before.nodes) before.nodes before.edges before.cut) (sym same) old.stands in
    same_numbers (turn_in h) (state_in g) (state_in h) limit more before.nodes after.nodes before.edges after.edges before.cut
    after.cut stands new.stands enough (old.nodes.first ∙ sym new.nodes.first)

-- What is seen of the state in a row.
pub record IsSeen (g : ForgottenParts) (found : Found) (number : ℕ) (row : List ℕ) : Type 0 where
  pub state : MachineState
  pub node : at g found number ≡ Some state
  pub means : state_of g.graph.store row ≡ Some state

pub seen_node : (image : ImageParts) (sight : Sight) (live : LiveSets) (groups : List ℕ) (g : ForgottenParts) (found : Found)
    (limit : ℕ) → AreNodes image sight live groups g found limit → (number : ℕ) (row : List ℕ) → number < length found.nodes →
    slice_get found.nodes number ≡ Some row → IsSeen g found number row
seen_node image sight live groups g found limit are number row below is =
    let meant = are.nodes.meant number below in
    let r = then_some (state_in g) (slice_get found.nodes number) meant.0 meant.1 in
    let same : row ≡ r.0 = same_Some row r.0 (sym is ∙ r.1) in
    let node = node_of g.graph row meant.0 (ap (state_in g) same ∙ r.2) in
    record { state = meant.0; node = meant.1; means = node.state }

-- of nodes that keep their numbers none passes that didn't before
pub none_so_far : (before after : ℕ → Option MachineState) (count : ℕ) (passing : MachineState → Bool) (first : Option ℕ)
    (number : ℕ) → ((i : ℕ) → i < count → after i ≡ before i) → IsFirstPassing before count passing first →
    is_some first ≡ false → number ≡ count → NonePassesBefore after passing number
none_so_far before after count passing None number keeps first none is i s below there =
    first i s (sym (keeps i (subst (λ (n : ℕ). i < n) is below)) ∙ there)
none_so_far before after count passing (Some k) number keeps first none is i s below there = absurd (cc)

-- ---- the order of a node's turns

-- labels are numbers of harts where nothing is swept
label_below : (image : ImageParts) (label : ℕ) (op : Op) → operation_of_label image [] label ≡ Some op → label < length image.harts
unfolding operation_of_label
label_below image label op is = elim (cases_Bool (nat_lt label (length image.harts))) [
  | inl low ↦ grind (arith, nat_tests)
  | inr high ↦ absurd (none-some op (rw high at is))
]

pub labels_below : (image : ImageParts) (labels : List ℕ) (ops : List Op) → AreLabelsOf image [] labels ops →
    (i label : ℕ) → slice_get labels i ≡ Some label → label < length image.harts
labels_below image [] ops are i label there = absurd (none-some label there)
labels_below image (x ∷ labels) [] are i label there = absurd are
labels_below image (x ∷ labels) (op ∷ ops) are zero label there =
    subst (λ (n : ℕ). n < length image.harts) (same_Some x label there) (label_below image x op are.0)
labels_below image (x ∷ labels) (op ∷ ops) are (suc i) label there = labels_below image labels ops are.1 i label there

-- and each of them is that of a step
pub step_label : (image : ImageParts) (label : ℕ) → label < length image.harts →
    operation_of_label image [] label ≡ Some (operation.Step label)
unfolding operation_of_label
step_label image label below = grind (arith, nat_tests)

-- and so are those of chosen states, as far as they are labels of turns
beyond_none : (image : ImageParts) (sight : Sight) (live : LiveSets) (groups : List ℕ) (s : MachineState) (label : ℕ) →
    length image.harts ≤ label → grouped_turn image sight live groups s label ≡ None
beyond_none image sight live groups s label past =
    ap (option_map (arranged_state groups)) (ap (option_map (forgotten_state live))
    (turn_beyond image [] sight s label (omega arith)))

below_some : (image : ImageParts) (sight : Sight) (live : LiveSets) (groups : List ℕ) (s t : MachineState) (label : ℕ) →
    grouped_turn image sight live groups s label ≡ Some t → label < length image.harts
below_some image sight live groups s t label goes = elim (cases_lt label (length image.harts)) [
  | inl low ↦ low
  | inr past ↦ absurd (none-some t (sym (beyond_none image sight live groups s label past) ∙ goes))
]

pub walk_below : (image : ImageParts) (sight : Sight) (live : LiveSets) (groups labels : List ℕ) (s r : MachineState) →
    IsWalk (grouped_turn image sight live groups) s labels r →
    (i label : ℕ) → slice_get labels i ≡ Some label → label < length image.harts
walk_below image sight live groups [] s r walk i label there = absurd (none-some label there)
walk_below image sight live groups (l ∷ labels) s r walk zero label there =
    option_and_then_some (λ (t : MachineState). after (grouped_turn image sight live groups) t labels)
    (grouped_turn image sight live groups s l) r walk (λ t goes later.
    subst (λ (k : ℕ). k < length image.harts) (same_Some l label there) (below_some image sight live groups s t l goes))
walk_below image sight live groups (l ∷ labels) s r walk (suc i) label there =
    option_and_then_some (λ (t : MachineState). after (grouped_turn image sight live groups) t labels)
    (grouped_turn image sight live groups s l) r walk (λ t goes later.
    walk_below image sight live groups labels t r later i label there)

-- ---- the order of turns

-- the order of the turns that lead to a state, and the harts that step first in them
pub turns_order : (image : ImageParts) (sight : Sight) (live : LiveSets) (groups : List ℕ) → IsRight image.program live →
    HidesForgotten live (hides sight) → (s : MachineState) (ops : List Op) → AreTurnsTo image sight live groups s ops →
    IsOrderTo image sight live groups s (order_of_turns image [] sight ops)
turns_order image sight live groups right hidden s ops turns =
    let own = machine_walk image sight live groups turns.labels s turns.least.0 in
    let leads = order_leads image sight live right hidden (machine_labels image sight live groups turns.labels) ops own.0
    turns.operations own.1 in
    record {
      labels = turns.labels;
      least = turns.least;
      ops = ops;
      operations = turns.operations;
      turns = refl;
      allowed = leads.allowed;
      legal = leads.legal;
      leads = subst (λ (t : MachineState). IsRenaming (keeps_number groups) t s) (sym leads.leads) own.2;
    }

pub turns_harts : (image : ImageParts) (sight : Sight) (live : LiveSets) (groups : List ℕ) (s : MachineState) (ops : List Op) →
    AreTurnsTo image sight live groups s ops → AreOfHarts image ops
turns_harts image sight live groups s ops turns i hart at =
    harts_of_labels image [] (machine_labels image sight live groups turns.labels) ops turns.operations i hart at

module _ (image : ImageParts) (sight : Sight) (live : LiveSets) (groups : List ℕ) (right : IsRight image.program live)
    (hidden : HidesForgotten live (hides sight)) (g : ForgottenParts) (found : Found) (limit : ℕ)
    (are : AreNodes image sight live groups g found limit) where
  witness_of : (number : ℕ) (s : MachineState) (labels : List ℕ) → at g found number ≡ Some s →
      IsTrace (edge_at found.edges) number (reverse labels) →
      IsWitness (grouped_turn image sight live groups) (grouped_start image sight live groups) s labels
  witness_of number s labels is trace =
      subst (λ (ls : List ℕ). IsWitness (grouped_turn image sight live groups) (grouped_start image sight live groups) s ls)
      (reverse-reverse labels) (are.nodes.witnessed number s (reverse labels) is trace)

  -- the labels of a node's trace are a walk, and so, by the numbers of the machine, are those of harts
  pub trace_walk : (number : ℕ) (labels : List ℕ) → number < length found.nodes →
      IsTrace (edge_at found.edges) number (reverse labels) →
      (s : MachineState) × IsWalk (grouped_turn image sight live groups) (grouped_start image sight live groups) labels s
  trace_walk number labels below trace =
      let meant = are.nodes.meant number below in
      (meant.0, (witness_of number meant.0 labels meant.1 trace).0)

  pub own_below : (number : ℕ) (labels own : List ℕ) → number < length found.nodes →
      IsTrace (edge_at found.edges) number (reverse labels) → own ≡ machine_labels image sight live groups labels →
      (i label : ℕ) → slice_get own i ≡ Some label → label < length image.harts
  own_below number labels own below trace own_is =
      let walk = trace_walk number labels below trace in
      let machine = machine_walk image sight live groups labels walk.0 walk.1 in
      let turns = walk_of_turns image sight live right hidden (machine_labels image sight live groups labels) machine.0 machine.1 in
      let ops = turns_labelled image [] sight (machine_labels image sight live groups labels) _ turns.0 turns.1 in
      subst (λ (ls : List ℕ). (i label : ℕ) → slice_get ls i ≡ Some label → label < length image.harts) (sym own_is)
      (labels_below image (machine_labels image sight live groups labels) ops.0 ops.1)

  pub trace_turns : (number : ℕ) (s : MachineState) (labels own : List ℕ) (ops : List Op) → at g found number ≡ Some s →
      IsTrace (edge_at found.edges) number (reverse labels) → own ≡ machine_labels image sight live groups labels →
      AreLabelsOf image [] own ops → AreTurnsTo image sight live groups s ops
  trace_turns number s labels own ops is trace own_is labelled = record {
    labels = labels;
    least = witness_of number s labels is trace;
    operations = subst (λ (ls : List ℕ). AreLabelsOf image [] ls ops) own_is labelled;
  }

-- where these nodes are all, and none passes, no state passes that an order leaves
pub none_passes : (image : ImageParts) (sight : Sight) (live : LiveSets) (groups : List ℕ) → IsRight image.program live →
    HidesForgotten live (hides sight) → (nodes : ℕ → Option MachineState) →
    ((s : MachineState) → IsReachable (grouped_turn image sight live groups) (grouped_start image sight live groups) s →
    IsFound nodes s) →
    (passing : MachineState → Bool) → KeepsPassing (hides sight) passing → PassesForgotten live passing →
    PassesRenamed (keeps_number groups) passing →
    ((i : ℕ) (s : MachineState) → nodes i ≡ Some s → passing s ≡ false) → NonePasses image [] passing
none_passes image sight live groups right hidden nodes all passing keeps same renamed none order allowed legal =
    let s = replayed_state image order in
    elim (cases_Bool (passing s)) [
      | inl holds ↦
          let reached = chosen_complete image sight live (keeps_number groups) (arranged_state groups) (renames groups) right hidden
          order allowed legal in
          let there = all reached.0 reached.1 in
          absurd (both_ways (passing reached.0) (none there.0 reached.0 there.1)
          (chosen_passes image sight live (keeps_number groups) passing keeps same renamed s reached.0 holds reached.2))
      | inr fails ↦ fails
    ]
