-- Rows of states whose harts forget, one after another.
use Rattle.std.proofs.Common.{◌≡◌, ℕ, suc, ◌+◌, ◌-◌, ◌<◌, ◌≤◌, List, length, arith, ap, sym, ◌∙◌, subst, length-set}
use Rattle.std.specs.Prelude.{Bool, true, Some, IsSome, slice_get, slice_set, slice_index_or}
use Rattle.std.proofs.lemmas.Option.{same_Some}
use Rattle.cheri_model.specs.runs.Image.{ImageParts}
use Rattle.cheri_model.specs.runs.Machine.{MachineState}
use Rattle.cheri_model.specs.runs.Machine as machine
use Rattle.cheri_model.specs.steps.Hart.{HartState}
use Rattle.forgotten_runs.specs.ForgottenRuns.{forgotten_state}
use Rattle.graph_search.specs.Graphs.{LeadsTo}
use Rattle.live_registers.specs.LiveSets.{LiveSets, forgotten_hart}
use Rattle.state_store.specs.Stores.{hart_at}
use Rattle.state_store.proofs.NumberedLemmas.{some_of}
use Rattle.state_store.proofs.StoreLemmas.{hart_at_kept}
use Rattle.states.specs.Graphs.{Continues, GraphParts, state_in}
use Rattle.states.proofs.EdgeLemmas.{hart_there}
use Rattle.states.proofs.NodeLemmas.{continues_self, is_some, node_of, state_made}
use Rattle.states.proofs.RowLemmas.{partly, partly_all, partly_more, partly_next, partly_none, row_with_hart}
use Rattle.owned_search.specs.Graphs.{IsForgottenNumber}
use Rattle.granule_states.specs.Graphs as granules

-- the state whose first n harts have forgotten
abbrev pub forgotten_to : LiveSets → ℕ → MachineState → MachineState
forgotten_to live n s = record { harts = partly (forgotten_hart live) n s.harts; memory = s.memory }

-- What is so of the hart in a place of a row of which the harts before it have forgotten.
pub record IsNextHart (g : GraphParts) (row : List ℕ) (s : MachineState) (place : ℕ) : Type 0 where
  pub hart : HartState
  pub of : slice_get s.harts (place - 1) ≡ Some hart
  pub there : hart_at g.store (slice_index_or row place 0) ≡ Some hart

pub next_hart : (live : LiveSets) (g : GraphParts) (row : List ℕ) (s : MachineState) (place : ℕ) →
    state_in g row ≡ Some (forgotten_to live (place - 1) s) → 0 < place → place < length row → IsNextHart g row s place
next_hart live g row s place is some within =
    let found = hart_there g g (continues_self g) row (forgotten_to live (place - 1) s) place is some within in
    record {
      hart = machine.hart_at (forgotten_to live (place - 1) s) (place - 1);
      of = sym (partly_next (forgotten_hart live) (place - 1) s.harts) ∙ found.0;
      there = found.1;
    }

pub next_there : (g : GraphParts) (row : List ℕ) (s : MachineState) (place : ℕ) → IsNextHart g row s place →
    IsSome (hart_at g.store (slice_index_or row place 0))
next_there g row s place next = is_some (hart_at g.store (slice_index_or row place 0)) next.hart next.there

wide : (g h : GraphParts) → Continues g h → (row : List ℕ) → length row ≡ length g.image.harts + 1 →
    length row ≡ length h.image.harts + 1
wide g h continues row width =
    subst (λ (i : ImageParts). length row ≡ length i.harts + 1) (sym continues.image) width

-- one hart more has forgotten
forget_more : (live : LiveSets) (g h : GraphParts) → Continues g h → (row : List ℕ) (s : MachineState) (n id : ℕ) (hart : HartState) →
    state_in g row ≡ Some (forgotten_to live n s) → slice_get s.harts n ≡ Some hart →
    hart_at h.store id ≡ Some (forgotten_hart live hart) →
    state_in h (slice_set row (n + 1) id) ≡ Some (forgotten_to live (n + 1) s)
forget_more live g h continues row s n id hart is at there =
    let node = node_of g row (forgotten_to live n s) is in
    let more : suc n ≡ n + 1 = omega arith in
    state_made h (slice_set row (n + 1) id) (forgotten_to live (n + 1) s)
    (length-set row (n + 1) id ∙ wide g h continues row node.width)
    (row_with_hart g.store h.store continues.keeps row (forgotten_to live n s) n id (forgotten_hart live hart) node.state there
    ∙ (ap (λ (hs : List HartState). Some (record { harts = hs; memory = s.memory }))
    (partly_more (forgotten_hart live) n s.harts hart at)
    ∙ ap (λ (k : ℕ). Some (forgotten_to live k s)) more))

pub forget_on : (live : LiveSets) (g h : GraphParts) → Continues g h → (row : List ℕ) (s : MachineState) (place id : ℕ) →
    state_in g row ≡ Some (forgotten_to live (place - 1) s) → 0 < place → IsNextHart g row s place →
    IsForgottenNumber live h.store (slice_index_or row place 0) id →
    state_in h (slice_set row place id) ≡ Some (forgotten_to live (place + 1 - 1) s)
forget_on live g h continues row s place id is some hart number =
    let same : place - 1 + 1 ≡ place = omega arith in
    let after : place ≡ place + 1 - 1 = omega arith in
    let this : number.hart ≡ hart.hart =
    same_Some number.hart hart.hart
    (sym number.before ∙ hart_at_kept g.store h.store continues.keeps (slice_index_or row place 0) hart.hart hart.there) in
    let there : hart_at h.store id ≡ Some (forgotten_hart live hart.hart) =
    number.there ∙ ap (λ (x : HartState). Some (forgotten_hart live x)) this in
    let more = forget_more live g h continues row s (place - 1) id hart.hart is hart.of there in
    subst (λ (k : ℕ). state_in h (slice_set row k id) ≡ Some (forgotten_to live k s)) same more
    ∙ ap (λ (k : ℕ). Some (forgotten_to live k s)) after

-- none has yet
pub forget_begun : (live : LiveSets) (g : GraphParts) (row : List ℕ) (s : MachineState) → state_in g row ≡ Some s →
    state_in g row ≡ Some (forgotten_to live 0 s)
forget_begun live g row s is =
    is ∙ ap (λ (hs : List HartState). Some (record { harts = hs; memory = s.memory })) (sym (partly_none (forgotten_hart live) s.harts))

-- and all have
pub forget_all : (live : LiveSets) (g : GraphParts) (row : List ℕ) (s : MachineState) (n : ℕ) →
    state_in g row ≡ Some (forgotten_to live n s) → length s.harts ≤ n → state_in g row ≡ Some (forgotten_state live s)
unfolding forgotten_state
forget_all live g row s n is all =
    is ∙ ap (λ (hs : List HartState). Some (record { harts = hs; memory = s.memory })) (partly_all (forgotten_hart live) n s.harts all)

-- ---- where turns lead

-- a row to which a turn led
pub led : (g h : granules.GranuleParts) (node to : List ℕ) (label : ℕ) (leads : Bool) → leads ≡ true → IsSome (granules.state_in g node) →
    ((s : MachineState) → granules.state_in g node ≡ Some s → LeadsTo (granules.state_in h) leads to (granules.turn_in g s label)) →
    IsSome (granules.state_in h to)
led g h node to label leads holds some value =
    let s = some_of (granules.state_in g node) some in
    let there : LeadsTo (granules.state_in h) true to (granules.turn_in g s.0 label) =
    subst (λ (b : Bool). LeadsTo (granules.state_in h) b to (granules.turn_in g s.0 label)) holds (value s.0 s.1) in
    let t = some_of (granules.turn_in g s.0 label) there.0 in
    is_some (granules.state_in h to) t.0 (there.1 ∙ t.1)
