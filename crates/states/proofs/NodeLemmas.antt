-- What is so of a node of the graph, and of the tables that the graph keeps.
use Rattle.std.proofs.Common.{◌≡◌, ◌≢◌, ℕ, ◌+◌, ◌<◌, ◌≤◌, List, [], ◌∷◌, map, length, arith, ap, sym, ◌∙◌, refl, subst, inl, inr}
use Rattle.std.specs.Prelude.{Option, Some, None, IsSome, slice_get, slice_index_or, Bool, true, false, if◌then◌else◌}
use Rattle.std.proofs.lemmas.Bool.{cases_eq, cases_Bool}
use Rattle.std.proofs.lemmas.Bool.Decides.{nat_tests}
use Rattle.std.proofs.lemmas.Option.{none-some, same_Some, slice_get_within, slice_get-get_or}
use Rattle.cheri_model.specs.declared.instr.Instr.{Instr}
use Rattle.cheri_model.specs.steps.Hart.{HartState}
use Rattle.cheri_model.specs.runs.Image.{ImageParts}
use Rattle.cheri_model.specs.runs.Machine.{MachineState, is_running}
use Rattle.cheri_model.specs.runs.Machine as machine
use Rattle.state_store.specs.Stores.{Stored, hart_of, hart_at, memory_at, state_of, IsOneRow}
use Rattle.explore_sights.specs.declared.sights.Sight.{Sight}
use Rattle.explore_turns.specs.Turns.{resting, rest_by, turn_by}
use Rattle.schedules.specs.declared.ranges.SweepRange.{SweepRange}
use Rattle.state_store.specs.Numbered.{each}
use Rattle.state_store.proofs.NumberedLemmas.{some_of, then_some, each_parts}
use Rattle.states.proofs.RowLemmas.{each_none}
use Rattle.state_store.proofs.StoreLemmas.{state_of_kept, keeps_self, keeps_on, state_parts}
use Rattle.state_store.proofs.SeenLemmas.{seen_memory, seen_hart, seen_count}
use Rattle.states.specs.declared.steps.KnownStep.{KnownStep}
use Rattle.states.specs.Locals.{touched, site_of, stopped, IsTabled}
use Rattle.states.specs.Graphs.{GraphParts, state_in, Continues, rests_in, rest_in, turn_in}
use Rattle.states.proofs.TouchLemmas.{touched_within}

-- What a node says of its state.
pub record IsNode (g : GraphParts) (node : List ℕ) (s : MachineState) : Type 0 where
  pub width : length node ≡ length g.image.harts + 1
  pub state : state_of g.store node ≡ Some s
  pub count : length s.harts ≡ length g.image.harts
  pub memory : memory_at g.store (slice_index_or node 0 0) ≡ Some s.memory
  pub hart : (j : ℕ) → j < length g.image.harts →
      hart_at g.store (slice_index_or node (j + 1) 0) ≡ Some (machine.hart_at s j)

opened : (g : GraphParts) (node : List ℕ) (s : MachineState) → state_in g node ≡ Some s →
    (length node ≡ length g.image.harts + 1) × (state_of g.store node ≡ Some s)
unfolding state_in
opened g node s is = elim (cases_eq (length node) (length g.image.harts + 1)) [
  | inl same ↦
      let wide : state_in g node ≡ state_of g.store node = grind (arith, nat_tests) in (same, sym wide ∙ is)
  | inr other ↦ let none : state_in g node ≡ None = grind (arith, nat_tests) in absurd (none-some s (sym none ∙ is))
]

pub node_of : (g : GraphParts) (node : List ℕ) (s : MachineState) → state_in g node ≡ Some s → IsNode g node s
node_of g node s is =
    let o = opened g node s is in
    let size = seen_count g.store node s o.1 in
    let width = o.0 in
    record {
      width = width;
      state = o.1;
      count = omega arith;
      memory = (seen_memory g.store node s o.1).1;
      hart = λ j below. seen_hart g.store node s j o.1 (let low : j + 1 < length node = omega arith in low);
    }

pub state_made : (g : GraphParts) (node : List ℕ) (s : MachineState) → length node ≡ length g.image.harts + 1 →
    state_of g.store node ≡ Some s → state_in g node ≡ Some s
unfolding state_in
state_made g node s width is =
    let wide : state_in g node ≡ state_of g.store node = grind (arith, nat_tests) in wide ∙ is

pub state_kept : (g h : GraphParts) → Continues g h → (node : List ℕ) (s : MachineState) → state_in g node ≡ Some s →
    state_in h node ≡ Some s
state_kept g h continues node s is =
    let o = opened g node s is in
    let width : length node ≡ length h.image.harts + 1 =
    subst (λ (n : ℕ). length node ≡ n + 1) (ap (λ (i : ImageParts). length i.harts) (sym continues.image)) o.0 in
    state_made h node s width (state_of_kept g.store h.store continues.keeps node s o.1)

pub some_state : (g : GraphParts) (node : List ℕ) → IsSome (state_in g node) →
    (s : MachineState) × (state_in g node ≡ Some s)
some_state g node some = some_of (state_in g node) some

pub is_some : {A : Type 0} (o : Option A) (x : A) → o ≡ Some x → IsSome o
is_some {A} o x is = subst (λ (p : Option A). IsSome p) (sym is) refl

-- the site of a hart
pub site_there : (program : List Instr) (rests : HartState → HartState) (store : Stored) (sites : List ℕ) (steps : List KnownStep)
    (id : ℕ) (h : HartState) → IsTabled program rests store sites steps → hart_at store id ≡ Some h →
    (id < length sites) × ((d : ℕ) → slice_index_or sites id d ≡ site_of program store.granules h)
unfolding hart_at
site_there program rests store sites steps id h tabled is =
    let row = then_some (hart_of store.values) (slice_get store.harts id) h is in
    let below : id < length store.harts = slice_get_within store.harts id row.0 row.1 in
    let even = tabled.even in
    let within : id < length sites = omega arith in (
      within,
      λ d.
          let site = tabled.sites_are id (slice_index_or sites id d) (slice_get-get_or sites id d within) in
          site.2 ∙ ap (λ (k : HartState). site_of program store.granules k) (same_Some site.0 h (sym site.1 ∙ is)),
    )

-- a hart whose site is a granule runs
pub site_of_running : (program : List Instr) (granules : ℕ) (h : HartState) (site : ℕ) → site ≡ site_of program granules h →
    site ≢ stopped → (is_running h.status ≡ true) × (site ≡ touched program granules h)
site_of_running program granules h site is runs = elim (cases_Bool (is_running h.status)) [
  | inl on ↦
      let same : site_of program granules h ≡ touched program granules h =
      ap (λ (b : Bool). if b then touched program granules h else stopped) on in
      (on, is ∙ same)
  | inr off ↦
      let same : site_of program granules h ≡ stopped =
      ap (λ (b : Bool). if b then touched program granules h else stopped) off in
      absurd (runs (is ∙ same))
]

-- and one whose site is none does not
pub site_of_stopped : (program : List Instr) (granules : ℕ) (h : HartState) (site : ℕ) → site ≡ site_of program granules h →
    0 < granules → granules ≤ 65536 → site ≡ stopped → is_running h.status ≡ false
site_of_stopped program granules h site is some few stops = elim (cases_Bool (is_running h.status)) [
  | inl on ↦
      let same : site_of program granules h ≡ touched program granules h =
      ap (λ (b : Bool). if b then touched program granules h else stopped) on in
      let at : touched program granules h ≡ 4294967295 = sym same ∙ (sym is ∙ stops) in
      let within = touched_within program granules h some in
      absurd (omega arith)
  | inr off ↦ off
]

-- harts rest in a graph as they did
pub rests_kept : (g h : GraphParts) → Continues g h → rests_in h ≡ rests_in g
rests_kept g h continues =
    ap (λ (i : ImageParts). resting i h.sweeps h.sight) continues.image
    ∙ (ap (λ (ss : List SweepRange). resting g.image ss h.sight) continues.sweeps
    ∙ ap (λ (x : Sight). resting g.image g.sweeps x) continues.sight)

-- a graph of an image, sweeps and a sight has their turns, and their states at rest
pub turns_same : (g : GraphParts) (image : ImageParts) (sweeps : List SweepRange) (sight : Sight) → g.image ≡ image →
    g.sweeps ≡ sweeps → g.sight ≡ sight → turn_in g ≡ turn_by image sweeps sight
turns_same g image sweeps sight first second third =
    ap (λ (i : ImageParts). turn_by i g.sweeps g.sight) first
    ∙ (ap (λ (ss : List SweepRange). turn_by image ss g.sight) second ∙ ap (λ (x : Sight). turn_by image sweeps x) third)

pub states_same : (g : GraphParts) (image : ImageParts) (sweeps : List SweepRange) (sight : Sight) (s : MachineState) →
    g.image ≡ image → g.sweeps ≡ sweeps → g.sight ≡ sight → rest_in g s ≡ rest_by image sweeps sight s
states_same g image sweeps sight s first second third =
    ap (λ (i : ImageParts). rest_by i g.sweeps g.sight s) first
    ∙ (ap (λ (ss : List SweepRange). rest_by image ss g.sight s) second ∙ ap (λ (x : Sight). rest_by image sweeps x s) third)

-- a hart with a number is at its rest
pub hart_rests : (program : List Instr) (rests : HartState → HartState) (store : Stored) (sites : List ℕ) (steps : List KnownStep) (id : ℕ) (h : HartState) → IsTabled program rests store sites steps →
    hart_at store id ≡ Some h → rests h ≡ h
unfolding hart_at
hart_rests program rests store sites steps id h tabled is =
    let row = then_some (hart_of store.values) (slice_get store.harts id) h is in
    let below : id < length store.harts = slice_get_within store.harts id row.0 row.1 in
    let even = tabled.even in
    let within : id < length sites = omega arith in
    let site = tabled.sites_are id (slice_index_or sites id 0) (slice_get-get_or sites id 0 within) in
    subst (λ (x : HartState). rests x ≡ x) (same_Some site.0 h (sym site.1 ∙ is)) site.3

each_rests : (f : ℕ → Option HartState) (rests : HartState → HartState) → ((id : ℕ) (h : HartState) → f id ≡ Some h → rests h ≡ h) →
    (ids : List ℕ) (hs : List HartState) → each f ids ≡ Some hs → map rests hs ≡ hs
each_rests f rests known [] hs is =
    subst (λ (l : List HartState). map rests l ≡ l) (same_Some [] hs (sym (each_none f) ∙ is)) refl
each_rests f rests known (id ∷ ids) hs is =
    let p = each_parts f id ids hs is in
    subst (λ (l : List HartState). map rests l ≡ l) p.4
    (ap (λ (h : HartState). h ∷ map rests p.1) (known id p.0 p.2)
    ∙ ap (λ (l : List HartState). p.0 ∷ l) (each_rests f rests known ids p.1 p.3))

-- so each hart of a node is
pub node_rests : (g : GraphParts) (sites : List ℕ) (steps : List KnownStep) (node : List ℕ) (s : MachineState) →
    IsTabled g.image.program (rests_in g) g.store sites steps → state_in g node ≡ Some s → map (rests_in g) s.harts ≡ s.harts
unfolding state_of
node_rests g sites steps [] s tabled is = absurd (none-some s (opened g [] s is).1)
node_rests g sites steps (m ∷ ids) s tabled is =
    each_rests (hart_at g.store) (rests_in g)
    (λ id h at. hart_rests g.image.program (rests_in g) g.store sites steps id h tabled at) ids s.harts
    (state_parts g.store m ids s (opened g (m ∷ ids) s is).1).1

pub continues_self : (g : GraphParts) → Continues g g
continues_self g = record { image = refl; sweeps = refl; sight = refl; keeps = keeps_self g.store }

pub continues_on : (g h i : GraphParts) → Continues g h → Continues h i → Continues g i
continues_on g h i first second = record {
  image = second.image ∙ first.image;
  sweeps = second.sweeps ∙ first.sweeps;
  sight = second.sight ∙ first.sight;
  keeps = keeps_on g.store h.store i.store first.keeps second.keeps;
}

-- no state is two nodes
pub one_node : (g : GraphParts) → IsOneRow g.store → (m n : List ℕ) (s : MachineState) → state_in g m ≡ Some s →
    state_in g n ≡ Some s → m ≡ n
one_node g one m n s is also = one m n s (opened g m s is).1 (opened g n s also).1

-- What is so of a hart that runs, whose site was looked up.
pub record IsReady (g : GraphParts) (node : List ℕ) (s : MachineState) (j site : ℕ) : Type 0 where
  pub hart : hart_at g.store (slice_index_or node (j + 1) 0) ≡ Some (machine.hart_at s j)
  pub memory : memory_at g.store (slice_index_or node 0 0) ≡ Some s.memory
  pub some : 0 < g.store.granules
  pub runs : is_running (machine.hart_at s j).status ≡ true
  pub touches : site ≡ touched g.image.program g.store.granules (machine.hart_at s j)
  pub within : site < g.store.granules

pub ready : (g : GraphParts) (sites : List ℕ) (steps : List KnownStep) (node : List ℕ) (s : MachineState)
    (j site : ℕ) → IsTabled g.image.program (rests_in g) g.store sites steps → 0 < g.store.granules → state_in g node ≡ Some s →
    j < length g.image.harts → site ≡ slice_index_or sites (slice_index_or node (j + 1) 0) site → site ≢ stopped →
    IsReady g node s j site
ready g sites steps node s j site tabled some is there looked runs =
    let n = node_of g node s is in
    let at = looked ∙ (site_there g.image.program (rests_in g) g.store sites steps (slice_index_or node (j + 1) 0) (machine.hart_at s j)
    tabled (n.hart j there)).1 site in
    let r = site_of_running g.image.program g.store.granules (machine.hart_at s j) site at runs in
    record {
      hart = n.hart j there;
      memory = n.memory;
      some = some;
      runs = r.0;
      touches = r.1;
      within = subst (λ (k : ℕ). k < g.store.granules) (sym r.1)
          (touched_within g.image.program g.store.granules (machine.hart_at s j) some);
    }
