-- What is so of the states that a search kept.
use Rattle.std.proofs.Common.{◌≡◌, ℕ, zero, suc, ◌+◌, ◌-◌, ◌<◌, ◌≤◌, inl, inr, nat_lt, List, [], ◌∷◌, ◌++◌, length, arith, ap, sym, ◌∙◌, refl, subst, reverse}
use Rattle.std.specs.Prelude.{Option, option_map, Some, None, IsSome, slice_get, slice_index_or, Bool, true, ◌*◌}
use Rattle.std.proofs.lemmas.Bool.{cases_Bool, both_ways}
use Rattle.std.proofs.lemmas.Bool.Decides.{nat_tests}
use Rattle.std.proofs.lemmas.List.{reverse-reverse}
use Rattle.std.proofs.lemmas.Option.{none-some, same_Some}
use Rattle.cheri_model.specs.declared.operation.Op.{Op}
use Rattle.cheri_model.specs.declared.operation.Op.TheVariants as operation
use Rattle.cheri_model.specs.runs.Image.{ImageParts}
use Rattle.cheri_model.specs.runs.ImageRules.{is_image}
use Rattle.cheri_model.specs.runs.Machine.{MachineState}
use Rattle.cheri_model.specs.runs.Replay.{replayed_state}
use Rattle.graph_search.specs.Searches.{IsExplored, Reaches}
use Rattle.graph_search.specs.Trees.{IsTrace, Found, state_at, edge_at}
use Rattle.graph_search.specs.Walks.{IsWitness}
use Rattle.schedules.specs.declared.ranges.SweepRange.{SweepRange}
use Rattle.explore_sights.specs.declared.sights.Sight.{Sight}
use Rattle.explore_sights.specs.Sights.{hides}
use Rattle.explore_turns.specs.declared.quiet.TheConstants.{MAX_QUIET_STEPS}
use Rattle.explore_turns.specs.Orders.{order_of_turns}
use Rattle.explore_turns.specs.Turns.{rest_of, rest_by, start_by, turn_by, KeepsPassing}
use Rattle.explore_turns.proofs.TurnLemmas.{rest_reached}
use Rattle.explore_turns.proofs.PassingLemmas.{rest_passes}
use Rattle.explore_turns.proofs.OrderLemmas.{turns_lead, turns_labelled}
use Rattle.schedules.specs.Schedules.{sweep_of, operation_of_label, AreLabelsOf}
use Rattle.schedules.proofs.WalkLemmas.{replayed_reachable}
use Rattle.state_store.specs.Stores.{memory_at, state_of}
use Rattle.state_store.proofs.NumberedLemmas.{then_some, each_length}
use Rattle.state_store.proofs.ViewLemmas.{row_of_memory}
use Rattle.state_store.proofs.SeenLemmas.{memory_there}
use Rattle.states.specs.Graphs.{GraphParts, state_in, turn_in}
use Rattle.states.specs.Kept.{KeptParts, kept_of, graph_of, at, edge, count, IsKept, IsSearch, IsWitnessOrder, AreWitnessTurns, AreAllKept, IsFirstPassing}
use Rattle.states.specs.Kept.{KeepsNumbers, NonePasses}
use Rattle.states.proofs.NodeLemmas.{node_of, is_some}
use Rattle.states.proofs.OpeningLemmas.{opening_granules}
use Rattle.states.proofs.MeaningLemmas.{same_meaning, states_in}
use Rattle.states.proofs.NumberLemmas.{same_numbers}

-- a graph that was searched
pub searched : (g : GraphParts) (image : ImageParts) (sweeps : List SweepRange) (sight : Sight) (found : Found) (limit : ℕ) →
    turn_in g ≡ turn_by image sweeps sight → length g.image.harts ≡ length image.harts →
    IsExplored (turn_in g) (start_by image sweeps sight) limit (state_at (state_in g) found.nodes)
    (edge_at found.edges) (length found.nodes) found.complete →
    found.width ≡ length g.image.harts + 1 →
    Reaches (turn_in g) (state_in g) limit (length found.nodes) found.nodes found.edges found.cut →
    IsKept image sweeps sight g found limit
searched g image sweeps sight found limit edges harts explored wide stands = record {
  edges = edges;
  harts = harts;
  search = subst (λ (m : List ℕ → Option MachineState). IsExplored (turn_by image sweeps sight) (start_by image sweeps sight) limit
      (state_at m found.nodes) (edge_at found.edges) (length found.nodes) found.complete)
      (same_meaning g image sweeps sight harts)
      (subst (λ (f : MachineState → ℕ → Option MachineState). IsExplored f (start_by image sweeps sight) limit
      (state_at (state_in g) found.nodes) (edge_at found.edges) (length found.nodes) found.complete) edges explored);
  wide = wide ∙ ap (λ (n : ℕ). n + 1) harts;
  stands = stands;
}

-- the first node is the opening state's
pub first_state : (image : ImageParts) (sweeps : List SweepRange) (sight : Sight) (g : GraphParts) (found : Found) (limit : ℕ) →
    IsKept image sweeps sight g found limit → state_at (state_in g) found.nodes 0 ≡ Some (start_by image sweeps sight)
first_state image sweeps sight g found limit kept =
    ap (λ (m : List ℕ → Option MachineState). state_at m found.nodes 0) (same_meaning g image sweeps sight kept.harts)
    ∙ kept.search.first

-- a search that went on keeps the numbers of its states
pub numbers_kept : (image : ImageParts) (sweeps : List SweepRange) (sight : Sight) (g h : GraphParts) (before after : Found) (limit more : ℕ) →
    turn_in h ≡ turn_in g → IsKept image sweeps sight g before limit → IsKept image sweeps sight h after more →
    length before.nodes ≤ more →
    KeepsNumbers (kept_of image sweeps sight g.store before limit) (kept_of image sweeps sight h.store after more)
numbers_kept image sweeps sight g h before after limit more same old new enough i below =
    let stands = subst (λ (f : MachineState → ℕ → Option MachineState). Reaches f (state_in g) limit
    (length before.nodes) before.nodes before.edges before.cut) (sym same) old.stands in
    let first = first_state image sweeps sight g before limit old ∙ sym (first_state image sweeps sight h after more new) in
    ap (λ (f : ℕ → Option MachineState). f i) (states_in image sweeps sight h after more new)
    ∙ (same_numbers (turn_in h) (state_in g) (state_in h) limit more before.nodes after.nodes before.edges after.edges before.cut
    after.cut stands new.stands enough first i below
    ∙ sym (ap (λ (f : ℕ → Option MachineState). f i) (states_in image sweeps sight g before limit old)))

-- where its turns begin
abbrev start_of : KeptParts → MachineState
start_of kept = start_by kept.image kept.sweeps kept.sight

-- how many granules the memories have
pub kept_granules : (kept : KeptParts) → IsSearch kept → is_image kept.image ≡ true →
    16 * kept.store.granules ≡ kept.image.ram
unfolding rest_of
kept_granules kept h is =
    let first = then_some (state_in (graph_of kept)) (slice_get kept.nodes 0) (start_of kept) h.first in
    let node = node_of (graph_of kept) first.0 (start_of kept) first.2 in
    let row = memory_there kept.store (slice_index_or first.0 0 0) (is_some (memory_at kept.store (slice_index_or first.0 0 0))
    (start_of kept).memory node.memory) in
    let wide = row_of_memory kept.store (slice_index_or first.0 0 0) row.0 (start_of kept).memory node.memory row.2 in
    let size : length row.0 ≡ length (start_of kept).memory =
    each_length (slice_get kept.store.values) row.0 (start_of kept).memory wide.1 in
    let granules : length row.0 ≡ kept.store.granules = wide.0 in
    let ram = opening_granules kept.image is in
    omega arith

pub all_kept : (kept : KeptParts) → IsSearch kept → kept.complete ≡ true → AreAllKept kept
all_kept kept h done order allowed legal =
    h.complete done (rest_by kept.image kept.sweeps kept.sight (replayed_state kept.image order))
    (rest_reached kept.image kept.sweeps (hides kept.sight) MAX_QUIET_STEPS (replayed_state kept.image order)
    (replayed_reachable kept.image kept.sweeps order allowed legal))

-- the label of a step is a hart's number
sweeps_no_step : (o : Option SweepRange) (hart : ℕ) → option_map sweep_of o ≡ Some (operation.Step hart) → ⊥
sweeps_no_step None hart is = none-some (operation.Step hart) is
sweeps_no_step (Some range) hart is =
    let e : operation.Sweep range.lo range.hi ≡ operation.Step hart = same_Some (sweep_of range) (operation.Step hart) is in
    absurd (cc)

step_below : (image : ImageParts) (sweeps : List SweepRange) (l hart : ℕ) →
    operation_of_label image sweeps l ≡ Some (operation.Step hart) → hart < length image.harts
unfolding operation_of_label
step_below image sweeps l hart is = elim (cases_Bool (nat_lt l (length image.harts))) [
  | inl low ↦
      let e : operation.Step l ≡ operation.Step hart = same_Some (operation.Step l) (operation.Step hart) (rw low at is) in
      let same : l ≡ hart = cc in
      grind (arith, nat_tests)
  | inr high ↦ absurd (sweeps_no_step (slice_get sweeps (l - length image.harts)) hart (rw high at is))
]

-- each of the labels has an operation
pub labels_mean : (image : ImageParts) (sweeps : List SweepRange) (ls : List ℕ) (order : List Op) →
    AreLabelsOf image sweeps ls order → (i l : ℕ) → slice_get ls i ≡ Some l → IsSome (operation_of_label image sweeps l)
labels_mean image sweeps [] order are i l at = absurd (none-some l at)
labels_mean image sweeps (x ∷ ls) [] are i l at = absurd are
labels_mean image sweeps (x ∷ ls) (op ∷ order) are zero l at =
    subst (λ (n : ℕ). IsSome (operation_of_label image sweeps n)) (same_Some x l at)
    (subst (λ (o : Option Op). IsSome o) (sym are.0) refl)
labels_mean image sweeps (x ∷ ls) (op ∷ order) are (suc i) l at = labels_mean image sweeps ls order are.1 i l at

-- and each step is one of a hart of the image
pub harts_of_labels : (image : ImageParts) (sweeps : List SweepRange) (ls : List ℕ) (order : List Op) →
    AreLabelsOf image sweeps ls order → (i hart : ℕ) → slice_get order i ≡ Some (operation.Step hart) → hart < length image.harts
harts_of_labels image sweeps [] [] are i hart at = absurd (none-some (operation.Step hart) at)
harts_of_labels image sweeps [] (op ∷ order) are i hart at = absurd are
harts_of_labels image sweeps (x ∷ ls) [] are i hart at = absurd are
harts_of_labels image sweeps (x ∷ ls) (op ∷ order) are zero hart at =
    step_below image sweeps x hart (are.0 ∙ at)
harts_of_labels image sweeps (x ∷ ls) (op ∷ order) are (suc i) hart at = harts_of_labels image sweeps ls order are.1 i hart at

-- one more label and its operation
pub labels_more : (image : ImageParts) (sweeps : List SweepRange) (ls : List ℕ) (order : List Op) (l : ℕ) (op : Op) →
    AreLabelsOf image sweeps ls order → operation_of_label image sweeps l ≡ Some op →
    AreLabelsOf image sweeps (ls ++ l ∷ []) (order ++ op ∷ [])
labels_more image sweeps [] [] l op are is = (is, tt)
labels_more image sweeps [] (x ∷ order) l op are is = absurd are
labels_more image sweeps (x ∷ ls) [] l op are is = absurd are
labels_more image sweeps (x ∷ ls) (y ∷ order) l op are is = (are.0, labels_more image sweeps ls order l op are.1 is)

-- the labels of a state's trace, and the order of their turns
pub trace_means : (kept : KeptParts) (i : ℕ) (s : MachineState) (labels : List ℕ) (ops : List Op) → IsSearch kept →
    at kept i ≡ Some s → IsTrace (edge kept) i (reverse labels) → AreLabelsOf kept.image kept.sweeps labels ops →
    IsWitnessOrder kept.image kept.sweeps kept.sight s (order_of_turns kept.image kept.sweeps kept.sight ops)
unfolding replayed_state
trace_means kept i s labels ops h is trace are =
    let witness = subst (λ (ls : List ℕ). IsWitness (turn_by kept.image kept.sweeps kept.sight) (start_of kept) s ls)
    (reverse-reverse labels) (h.witnessed i s (reverse labels) is trace) in
    let leads = turns_lead kept.image kept.sweeps kept.sight labels ops s are witness.0 in
    record {
      labels = labels;
      least = witness;
      ops = ops;
      operations = are;
      turns = refl;
      allowed = leads.allowed;
      legal = leads.legal;
      leads = leads.leaves;
    }

-- the turns of the labels of a state's trace
pub trace_turns : (kept : KeptParts) (i : ℕ) (s : MachineState) (labels : List ℕ) (ops : List Op) → IsSearch kept →
    at kept i ≡ Some s → IsTrace (edge kept) i (reverse labels) → AreLabelsOf kept.image kept.sweeps labels ops →
    AreWitnessTurns kept.image kept.sweeps kept.sight s ops
trace_turns kept i s labels ops h is trace are =
    let witness = subst (λ (ls : List ℕ). IsWitness (turn_by kept.image kept.sweeps kept.sight) (start_of kept) s ls)
    (reverse-reverse labels) (h.witnessed i s (reverse labels) is trace) in
    record { labels = labels; least = witness; operations = are }

-- the order of these turns
pub witness_order : (image : ImageParts) (sweeps : List SweepRange) (sight : Sight) (s : MachineState) (ops : List Op) →
    AreWitnessTurns image sweeps sight s ops → IsWitnessOrder image sweeps sight s (order_of_turns image sweeps sight ops)
unfolding replayed_state
witness_order image sweeps sight s ops turns =
    let leads = turns_lead image sweeps sight turns.labels ops s turns.operations turns.least.0 in
    record {
      labels = turns.labels;
      least = turns.least;
      ops = ops;
      operations = turns.operations;
      turns = refl;
      allowed = leads.allowed;
      legal = leads.legal;
      leads = leads.leaves;
    }

-- each of these labels has an operation
pub trace_labels : (kept : KeptParts) (i : ℕ) (s : MachineState) (labels : List ℕ) → IsSearch kept → at kept i ≡ Some s →
    IsTrace (edge kept) i (reverse labels) → (ops : List Op) × AreLabelsOf kept.image kept.sweeps labels ops
trace_labels kept i s labels h is trace =
    let witness = subst (λ (ls : List ℕ). IsWitness (turn_by kept.image kept.sweeps kept.sight) (start_of kept) s ls)
    (reverse-reverse labels) (h.witnessed i s (reverse labels) is trace) in
    turns_labelled kept.image kept.sweeps kept.sight labels (start_of kept) s witness.0

-- What is seen of the state in a row.
pub record IsSeen (kept : KeptParts) (number : ℕ) (row : List ℕ) : Type 0 where
  pub state : MachineState
  pub there : at kept number ≡ Some state
  pub means : state_of kept.store row ≡ Some state
  pub width : length row ≡ length kept.image.harts + 1

pub seen_state : (kept : KeptParts) (number : ℕ) (row : List ℕ) → IsSearch kept → number < count kept →
    slice_get kept.nodes number ≡ Some row → IsSeen kept number row
seen_state kept number row h below is =
    let meant = h.meant number below in
    let r = then_some (state_in (graph_of kept)) (slice_get kept.nodes number) meant.0 meant.1 in
    let same : row ≡ r.0 = same_Some row r.0 (sym is ∙ r.1) in
    let node = node_of (graph_of kept) row meant.0 (ap (state_in (graph_of kept)) same ∙ r.2) in
    record { state = meant.0; there = meant.1; means = node.state; width = node.width }

-- where all states at rest that were searched fail a test that steps which aren't seen keep, all states fail it
pub none_passes : (kept : KeptParts) (passing : MachineState → Bool) → KeepsPassing (hides kept.sight) passing →
    AreAllKept kept → IsFirstPassing kept passing None → NonePasses kept.image kept.sweeps passing
none_passes kept passing keeps all none order allowed legal = elim (cases_Bool (passing (replayed_state kept.image order))) [
  | inl holds ↦
      let found = all order allowed legal in
      absurd (both_ways (passing (rest_by kept.image kept.sweeps kept.sight (replayed_state kept.image order)))
      (none found.0 (rest_by kept.image kept.sweeps kept.sight (replayed_state kept.image order)) found.1)
      (rest_passes kept.image kept.sweeps kept.sight passing keeps (replayed_state kept.image order) holds))
  | inr fails ↦ fails
]
