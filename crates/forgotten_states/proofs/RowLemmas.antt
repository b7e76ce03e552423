-- Rows of states whose harts forget, one after another.
use Rattle.std.proofs.Common.{◌≡◌, ℕ, zero, suc, ◌+◌, ◌-◌, ◌<◌, ◌≤◌, List, [], ◌∷◌, length, map, arith, ap, sym, ◌∙◌, subst, length-set}
use Rattle.std.specs.Prelude.{Some, IsSome, slice_get, slice_set, slice_index_or, true, Bool}
use Rattle.std.proofs.lemmas.Option.{none-some, same_Some}
use Rattle.cheri_model.specs.runs.Image.{ImageParts}
use Rattle.cheri_model.specs.runs.Machine.{MachineState}
use Rattle.cheri_model.specs.runs.Machine as machine
use Rattle.cheri_model.specs.steps.Hart.{HartState}
use Rattle.explore_sights.specs.Sights.{hides}
use Rattle.explore_turns.specs.declared.quiet.TheConstants.{MAX_QUIET_STEPS}
use Rattle.explore_turns.specs.Turns.{rest_of}
use Rattle.explore_turns.proofs.TurnLemmas.{rest_state_twice}
use Rattle.forgotten_runs.specs.ForgottenRuns.{forgotten_state}
use Rattle.graph_search.specs.Graphs.{LeadsTo}
use Rattle.live_registers.specs.LiveSets.{LiveSets, forgotten_hart}
use Rattle.schedules.specs.Schedules.{next}
use Rattle.state_store.specs.Stores.{hart_at}
use Rattle.state_store.proofs.NumberedLemmas.{map_some, some_of}
use Rattle.state_store.proofs.StoreLemmas.{hart_at_kept}
use Rattle.states.specs.Graphs.{Continues, GraphParts, rest_in, rests_in, state_in, turn_in}
use Rattle.states.proofs.EdgeLemmas.{hart_there}
use Rattle.states.proofs.NodeLemmas.{continues_self, node_of, rests_kept, some_state, state_made}
use Rattle.states.proofs.RowLemmas.{partly, partly_all, partly_more, partly_next, partly_none, row_with_hart}
use Rattle.forgotten_states.specs.Graphs.{IsForgottenNumber}

-- the state whose first n harts have forgotten
abbrev pub forgotten_to : LiveSets → ℕ → MachineState → MachineState
forgotten_to live n s = record { harts = partly (forgotten_hart live) n s.harts; memory = s.memory }

-- each hart of a state at rest is at its rest
each_rests : (f : HartState → HartState) (hs : List HartState) → map f hs ≡ hs → (n : ℕ) (h : HartState) → slice_get hs n ≡ Some h →
    f h ≡ h
each_rests f [] same n h is = absurd (none-some h is)
each_rests f (x ∷ hs) same zero h is = let first : f x ≡ x = cc in subst (λ (y : HartState). f y ≡ y) (same_Some x h is) first
each_rests f (x ∷ hs) same (suc n) h is = let rest : map f hs ≡ hs = cc in each_rests f hs rest n h is

-- What is so of the hart in a place of a row of which the harts before it have forgotten.
pub record IsNextHart (g : GraphParts) (row : List ℕ) (s : MachineState) (place : ℕ) : Type 0 where
  pub hart : HartState
  pub of : slice_get s.harts (place - 1) ≡ Some hart
  pub there : hart_at g.store (slice_index_or row place 0) ≡ Some hart
  pub rests : rests_in g hart ≡ hart

pub next_hart : (live : LiveSets) (g : GraphParts) (row : List ℕ) (s : MachineState) (place : ℕ) →
    state_in g row ≡ Some (forgotten_to live (place - 1) s) → rest_in g s ≡ s → 0 < place → place < length row →
    IsNextHart g row s place
unfolding rest_of
next_hart live g row s place is rested some within =
    let found = hart_there g g (continues_self g) row (forgotten_to live (place - 1) s) place is some within in
    let of = sym (partly_next (forgotten_hart live) (place - 1) s.harts) ∙ found.0 in
    record {
      hart = machine.hart_at (forgotten_to live (place - 1) s) (place - 1);
      of = of;
      there = found.1;
      rests = each_rests (rests_in g) s.harts (ap (λ (t : MachineState). t.harts) rested) (place - 1)
          (machine.hart_at (forgotten_to live (place - 1) s) (place - 1)) of;
    }

wide : (g h : GraphParts) → Continues g h → (row : List ℕ) → length row ≡ length g.image.harts + 1 →
    length row ≡ length h.image.harts + 1
wide g h continues row width =
    subst (λ (i : ImageParts). length row ≡ length i.harts + 1) (sym continues.image) width

-- one hart more has forgotten
forget_more : (live : LiveSets) (g h : GraphParts) → Continues g h → (row : List ℕ) (s : MachineState) (n id : ℕ) (hart : HartState) →
    state_in g row ≡ Some (forgotten_to live n s) → slice_get s.harts n ≡ Some hart →
    hart_at h.store id ≡ Some (forgotten_hart live hart) →
    state_in h (slice_set row (n + 1) id) ≡ Some (forgotten_to live (n + 1) s)
forget_more live g h continues row s n id hart is at there =
    let node = node_of g row (forgotten_to live n s) is in
    let more : suc n ≡ n + 1 = omega arith in
    state_made h (slice_set row (n + 1) id) (forgotten_to live (n + 1) s)
    (length-set row (n + 1) id ∙ wide g h continues row node.width)
    (row_with_hart g.store h.store continues.keeps row (forgotten_to live n s) n id (forgotten_hart live hart) node.state there
    ∙ (ap (λ (hs : List HartState). Some (record { harts = hs; memory = s.memory }))
    (partly_more (forgotten_hart live) n s.harts hart at)
    ∙ ap (λ (k : ℕ). Some (forgotten_to live k s)) more))

pub forget_on : (live : LiveSets) (g h : GraphParts) → Continues g h → (row : List ℕ) (s : MachineState) (place id : ℕ) →
    state_in g row ≡ Some (forgotten_to live (place - 1) s) → 0 < place → IsNextHart g row s place →
    IsForgottenNumber live h.store (slice_index_or row place 0) id →
    state_in h (slice_set row place id) ≡ Some (forgotten_to live (place + 1 - 1) s)
forget_on live g h continues row s place id is some hart number =
    let same : place - 1 + 1 ≡ place = omega arith in
    let after : place ≡ place + 1 - 1 = omega arith in
    let this : number.hart ≡ hart.hart =
    same_Some number.hart hart.hart
    (sym number.before ∙ hart_at_kept g.store h.store continues.keeps (slice_index_or row place 0) hart.hart hart.there) in
    let there : hart_at h.store id ≡ Some (forgotten_hart live hart.hart) =
    number.there ∙ ap (λ (x : HartState). Some (forgotten_hart live x)) this in
    let more = forget_more live g h continues row s (place - 1) id hart.hart is hart.of there in
    subst (λ (k : ℕ). state_in h (slice_set row k id) ≡ Some (forgotten_to live k s)) same more
    ∙ ap (λ (k : ℕ). Some (forgotten_to live k s)) after

-- none has yet
pub forget_begun : (live : LiveSets) (g : GraphParts) (row : List ℕ) (s : MachineState) → state_in g row ≡ Some s →
    state_in g row ≡ Some (forgotten_to live 0 s)
forget_begun live g row s is =
    is ∙ ap (λ (hs : List HartState). Some (record { harts = hs; memory = s.memory })) (sym (partly_none (forgotten_hart live) s.harts))

-- and all have
pub forget_all : (live : LiveSets) (g : GraphParts) (row : List ℕ) (s : MachineState) (n : ℕ) →
    state_in g row ≡ Some (forgotten_to live n s) → length s.harts ≤ n → state_in g row ≡ Some (forgotten_state live s)
unfolding forgotten_state
forget_all live g row s n is all =
    is ∙ ap (λ (hs : List HartState). Some (record { harts = hs; memory = s.memory })) (partly_all (forgotten_hart live) n s.harts all)

-- ---- where turns lead

-- a graph's states at rest rest in one that learned more
pub rest_kept : (g h : GraphParts) → Continues g h → (s : MachineState) → rest_in h s ≡ rest_in g s
unfolding rest_of
rest_kept g h continues s =
    ap (λ (f : HartState → HartState). record s { harts = map f s.harts }) (rests_kept g h continues)

pub rest_twice : (g : GraphParts) (s : MachineState) → rest_in g (rest_in g s) ≡ rest_in g s
unfolding rest_of
rest_twice g s =
    ap (λ (hs : List HartState). record s { harts = hs }) (rest_state_twice g.image g.sweeps (hides g.sight) MAX_QUIET_STEPS s.harts)

-- what a turn leads to is at rest
pub turn_rests : (g : GraphParts) (s t : MachineState) (label : ℕ) → turn_in g s label ≡ Some t → rest_in g t ≡ t
turn_rests g s t label goes =
    let step = map_some (rest_in g) (next g.image g.sweeps s label) t goes in
    subst (λ (x : MachineState). rest_in g x ≡ x) step.2 (rest_twice g step.0)

-- a row to which a turn led is that of a state at rest
pub led : (g h : GraphParts) → Continues g h → (node to : List ℕ) (label : ℕ) (leads : Bool) → leads ≡ true → IsSome (state_in g node) →
    ((s : MachineState) → state_in g node ≡ Some s → LeadsTo (state_in h) leads to (turn_in g s label)) →
    (t : MachineState) × (state_in h to ≡ Some t) × (rest_in h t ≡ t)
led g h continues node to label leads holds some value =
    let s = some_state g node some in
    let there : LeadsTo (state_in h) true to (turn_in g s.0 label) =
    subst (λ (b : Bool). LeadsTo (state_in h) b to (turn_in g s.0 label)) holds (value s.0 s.1) in
    let t = some_of (turn_in g s.0 label) there.0 in
    (t.0, there.1 ∙ t.1, rest_kept g h continues t.0 ∙ turn_rests g s.0 t.0 label t.1)
