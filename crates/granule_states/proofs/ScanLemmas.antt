-- What is so of the check of a search.
use Rattle.std.proofs.Common.{◌≡◌, ℕ, suc, ◌+◌, ◌<◌, List, [], length, arith, ap, sym, ◌∙◌, refl, subst, inl, inr, nat_lt}
use Rattle.std.specs.Prelude.{Bool, true, false, not, ◌&&◌, ◌||◌, Option, Some, None, IsSome, if◌then◌else◌, option_and_then, slice_get}
use Rattle.std.proofs.lemmas.Bool.{lt-ltb, and_parts, cases_lt}
use Rattle.std.proofs.lemmas.Option.{none-some, same_Some}
use Rattle.cheri_model.specs.declared.operation.Op.TheVariants as operation
use Rattle.cheri_model.specs.runs.Image.{ImageParts}
use Rattle.cheri_model.specs.runs.Machine.{MachineState, hart_at, is_running, may_take}
use Rattle.explore_turns.specs.declared.quiet.TheConstants.{MAX_QUIET_STEPS}
use Rattle.explore_turns.specs.QuietSteps.{asks_memory}
use Rattle.graph_search.specs.Graphs.{LeadsTo}
use Rattle.graph_search.specs.Trees.{state_at}
use Rattle.own_granules.specs.Granules.{asks_store, granule_of, is_quiet, may_touch, respects, respects_in}
use Rattle.own_granules.specs.Rests.{after_passes, rest_first, rest_one, way_passes, ways_pass}
use Rattle.own_granules.proofs.KeptLemmas.{none_left}
use Rattle.state_store.proofs.NumberedLemmas.{some_of, then_some}
use Rattle.states.proofs.NodeLemmas.{is_some}
use Rattle.schedules.proofs.WalkLemmas.{label_of_step, next_some}
use Rattle.schedules.specs.Schedules.{next}
use Rattle.granule_states.specs.Accesses.{IsAsked}
use Rattle.granule_states.specs.declared.accesses.Access.{Access}
use Rattle.granule_states.specs.Graphs.{GranuleParts, Learns, is_shared, owner_of, quiet_in, state_in, step_in}
use Rattle.granule_states.specs.Owners.{EdgePasses, NodePasses, passes_in}
use Rattle.granule_states.proofs.PassLemmas.{ways_on}
use Rattle.granule_states.proofs.TurnLemmas.{quiet_kept, state_learned, steps_kept}

-- a step that is allowed respects owners
weaker : (asks shared may : Bool) → (not asks || ((asks && shared) || may)) ≡ true → (not asks || (shared || may)) ≡ true
weaker false shared may holds = refl
weaker true shared may holds = holds

pub respected : (g : GranuleParts) (owners : List (Option ℕ)) (s : MachineState) (l : ℕ) (access : Access) →
    IsAsked g.graph.image (hart_at s l) access →
    (not access.asks || ((access.asks && is_shared g.shared access.granule)
    || may_touch (owner_of owners access.granule) l access.stores)) ≡ true →
    passes_in g owners s l ≡ true
unfolding respects
respected g owners s l access asked allowed =
    let image = g.graph.image in
    let h = hart_at s l in
    let all = weaker access.asks (is_shared g.shared access.granule) (may_touch (owner_of owners access.granule) l access.stores) allowed in
    let first : (not (asks_memory image.program h) || (is_shared g.shared access.granule
    || may_touch (owner_of owners access.granule) l access.stores)) ≡ true =
    subst (λ (b : Bool). (not b || (is_shared g.shared access.granule
    || may_touch (owner_of owners access.granule) l access.stores)) ≡ true) asked.asks all in
    let second : (not (asks_memory image.program h) || (is_shared g.shared (granule_of image h)
    || may_touch (owner_of owners (granule_of image h)) l access.stores)) ≡ true =
    subst (λ (n : ℕ). (not (asks_memory image.program h) || (is_shared g.shared n
    || may_touch (owner_of owners n) l access.stores)) ≡ true) asked.granule first in
    let third : (not (asks_memory image.program h) || (is_shared g.shared (granule_of image h)
    || may_touch (owner_of owners (granule_of image h)) l (asks_store image.program h))) ≡ true =
    subst (λ (b : Bool). (not (asks_memory image.program h) || (is_shared g.shared (granule_of image h)
    || may_touch (owner_of owners (granule_of image h)) l b)) ≡ true) asked.stores second in
    none_left image (is_shared g.shared) (owner_of owners) s l ∙ third

-- ---- learning more

pub passes_kept : (g h : GranuleParts) → Learns g h → (owners : List (Option ℕ)) → passes_in h owners ≡ passes_in g owners
passes_kept g h learns owners =
    ap (λ (i : ImageParts). respects_in i [] (is_shared h.shared) (owner_of owners)) learns.graph.image
    ∙ ap (λ (bs : List Bool). respects_in g.graph.image [] (is_shared bs) (owner_of owners)) learns.shared

pub passed_before : (g h : GranuleParts) → Learns g h → (owners : List (Option ℕ)) (t : MachineState) (l : ℕ) →
    passes_in h owners t l ≡ true → passes_in g owners t l ≡ true
passed_before g h learns owners t l holds =
    ap (λ (f : MachineState → ℕ → Bool). f t l) (sym (passes_kept g h learns owners)) ∙ holds

pub way_before : (g h : GranuleParts) → Learns g h → (owners : List (Option ℕ)) (t : MachineState) (l : ℕ) →
    way_passes (step_in h) (quiet_in h) (passes_in h owners) l MAX_QUIET_STEPS t ≡ true →
    way_passes (step_in g) (quiet_in g) (passes_in g owners) l MAX_QUIET_STEPS t ≡ true
way_before g h learns owners t l holds =
    sym (ap (λ (f : MachineState → ℕ → MachineState). way_passes f (quiet_in h) (passes_in h owners) l MAX_QUIET_STEPS t)
    (steps_kept g h learns)
    ∙ (ap (λ (f : MachineState → ℕ → Bool). way_passes (step_in g) f (passes_in h owners) l MAX_QUIET_STEPS t) (quiet_kept g h learns)
    ∙ ap (λ (f : MachineState → ℕ → Bool). way_passes (step_in g) (quiet_in g) f l MAX_QUIET_STEPS t) (passes_kept g h learns owners)))
    ∙ holds

-- ---- a hart that steps runs

pub quiet_runs : (g : GranuleParts) (s : MachineState) (l : ℕ) → quiet_in g s l ≡ true → is_running (hart_at s l).status ≡ true
unfolding is_quiet may_take
quiet_runs g s l holds =
    let may : nat_lt l (length s.harts) && is_running (hart_at s l).status ≡ true =
    (and_parts (nat_lt l (length s.harts) && is_running (hart_at s l).status) _ holds).0 in
    (and_parts (nat_lt l (length s.harts)) (is_running (hart_at s l).status) may).1

pub edge_runs : (image : ImageParts) (s t : MachineState) (l : ℕ) → l < length image.harts → next image [] s l ≡ Some t →
    is_running (hart_at s l).status ≡ true
unfolding may_take
edge_runs image s t l low goes =
    let step = next_some image [] s t l goes in
    let same = same_Some (operation.Step l) step.0 (sym (label_of_step image [] l low) ∙ step.1) in
    let may : may_take s (operation.Step l) ≡ true = ap (may_take s) same ∙ step.2 in
    (and_parts (nat_lt l (length s.harts)) (is_running (hart_at s l).status) may).1

-- ---- an edge

pub edge_none : (g : GranuleParts) (owners : List (Option ℕ)) (s : MachineState) (l : ℕ) (meaning : List ℕ → Option MachineState)
    (to : List ℕ) (leads : Bool) → leads ≡ false → LeadsTo meaning leads to (next g.graph.image [] s l) → EdgePasses g owners s l
edge_none g owners s l meaning to leads fails leading t goes =
    let none : next g.graph.image [] s l ≡ None =
    subst (λ (b : Bool). LeadsTo meaning b to (next g.graph.image [] s l)) fails leading in
    absurd (none-some t (sym none ∙ goes))

pub edge_leads : (g : GranuleParts) (s t : MachineState) (l : ℕ) (meaning : List ℕ → Option MachineState)
    (to : List ℕ) (leads : Bool) → next g.graph.image [] s l ≡ Some t → LeadsTo meaning leads to (next g.graph.image [] s l) →
    meaning to ≡ Some t
edge_leads g s t l meaning to true goes leading = leading.1 ∙ goes
edge_leads g s t l meaning to false goes leading = absurd (none-some t (sym leading ∙ goes))

pub led_some : (meaning : List ℕ → Option MachineState) (to : List ℕ) (leads : Bool) (end : Option MachineState) → leads ≡ true →
    LeadsTo meaning leads to end → IsSome (meaning to)
led_some meaning to leads end holds leading =
    let there : LeadsTo meaning true to end = subst (λ (b : Bool). LeadsTo meaning b to end) holds leading in
    subst (λ (o : Option MachineState). IsSome o) (sym there.1) there.0

pub edge_passes : (g : GranuleParts) (owners : List (Option ℕ)) (s t : MachineState) (l : ℕ) → l < length g.graph.image.harts →
    way_passes (step_in g) (quiet_in g) (passes_in g owners) l MAX_QUIET_STEPS t ≡ true →
    after_passes (step_in g) (quiet_in g) (passes_in g owners) MAX_QUIET_STEPS (length g.graph.image.harts) l t ≡ true
unfolding after_passes
edge_passes g owners s t l low holds =
    let below : nat_lt l (length g.graph.image.harts) ≡ true = lt-ltb l (length g.graph.image.harts) low in
    ap (λ (b : Bool). if b then way_passes (step_in g) (quiet_in g) (passes_in g owners) l MAX_QUIET_STEPS t
    else ways_pass (step_in g) (quiet_in g) (passes_in g owners) MAX_QUIET_STEPS (length g.graph.image.harts) t) below ∙ holds

-- what passes in a graph that learned more passed before
pub edge_before : (g h : GranuleParts) → Learns g h → (owners : List (Option ℕ)) (s : MachineState) (l : ℕ) →
    EdgePasses h owners s l → EdgePasses g owners s l
edge_before g h learns owners s l edge t goes =
    let there : next h.graph.image [] s l ≡ Some t = ap (λ (i : ImageParts). next i [] s l) learns.graph.image ∙ goes in
    let both = edge t there in
    let n = length g.graph.image.harts in (
      passed_before g h learns owners s l both.0,
      sym (ap (λ (f : MachineState → ℕ → MachineState). after_passes f (quiet_in h) (passes_in h owners) MAX_QUIET_STEPS
          (length h.graph.image.harts) l t) (steps_kept g h learns)
          ∙ (ap (λ (f : MachineState → ℕ → Bool). after_passes (step_in g) f (passes_in h owners) MAX_QUIET_STEPS
          (length h.graph.image.harts) l t) (quiet_kept g h learns)
          ∙ (ap (λ (f : MachineState → ℕ → Bool). after_passes (step_in g) (quiet_in g) f MAX_QUIET_STEPS
          (length h.graph.image.harts) l t) (passes_kept g h learns owners)
          ∙ ap (λ (i : ImageParts). after_passes (step_in g) (quiet_in g) (passes_in g owners) MAX_QUIET_STEPS
          (length i.harts) l t) learns.graph.image)))
          ∙ both.1,
    )

-- ---- nodes, and how a search begins

pub node_before : (g h : GranuleParts) → Learns g h → (owners : List (Option ℕ)) (s : MachineState) →
    NodePasses h owners s → NodePasses g owners s
node_before g h learns owners s node l low =
    edge_before g h learns owners s l
    (node l (subst (λ (i : ImageParts). l < length i.harts) (sym learns.graph.image) low))

-- the edges of the first labels pass
abbrev pub PassedTo : GranuleParts → List (Option ℕ) → MachineState → ℕ → Type 0
PassedTo g owners s n = (l : ℕ) → l < n → EdgePasses g owners s l

pub none_passed : (g : GranuleParts) (owners : List (Option ℕ)) (s : MachineState) → PassedTo g owners s 0
none_passed g owners s l low = absurd (omega arith)

pub passed_more : (g : GranuleParts) (owners : List (Option ℕ)) (s : MachineState) (n : ℕ) → PassedTo g owners s n →
    EdgePasses g owners s n → PassedTo g owners s (n + 1)
passed_more g owners s n was one l low = elim (cases_lt l n) [
  | inl below ↦ was l below
  | inr past ↦
      let same : n ≡ l = omega arith in
      subst (λ (k : ℕ). EdgePasses g owners s k) same one
]

-- all nodes before this one pass
abbrev pub PassedNodes : GranuleParts → List (Option ℕ) → (ℕ → Option MachineState) → ℕ → Type 0
PassedNodes g owners at n = (i : ℕ) (s : MachineState) → i < n → at i ≡ Some s → NodePasses g owners s

pub no_nodes : (g : GranuleParts) (owners : List (Option ℕ)) (at : ℕ → Option MachineState) → PassedNodes g owners at 0
no_nodes g owners at i s low is = absurd (omega arith)

pub nodes_more : (g : GranuleParts) (owners : List (Option ℕ)) (at : ℕ → Option MachineState) (n : ℕ) →
    PassedNodes g owners at n → ((s : MachineState) → at n ≡ Some s → NodePasses g owners s) → PassedNodes g owners at (n + 1)
nodes_more g owners at n was one i s low is = elim (cases_lt i n) [
  | inl below ↦ was i s below is
  | inr past ↦
      let same : i ≡ n = omega arith in
      one s (ap at (sym same) ∙ is)
]

-- a node means what it did
pub node_there : (g h : GranuleParts) → Learns g h → (nodes : List (List ℕ)) (i : ℕ) (row : List ℕ) (s : MachineState) →
    slice_get nodes i ≡ Some row → state_at (state_in g) nodes i ≡ Some s → state_in h row ≡ Some s
node_there g h learns nodes i row s at is =
    state_learned g h learns row s (sym (ap (option_and_then (state_in g)) at) ∙ is)

-- harts go to their rest one after another
pub first_more : (g h i : GranuleParts) → Learns g h → (row : List ℕ) (s : MachineState) (hart : ℕ) →
    state_in i row ≡ Some (rest_one (step_in h) (quiet_in h) MAX_QUIET_STEPS hart
    (rest_first (step_in g) (quiet_in g) MAX_QUIET_STEPS hart s)) →
    state_in i row ≡ Some (rest_first (step_in g) (quiet_in g) MAX_QUIET_STEPS (hart + 1) s)
unfolding rest_first
first_more g h i learns row s hart is =
    let more : suc hart ≡ hart + 1 = omega arith in
    let before = rest_first (step_in g) (quiet_in g) MAX_QUIET_STEPS hart s in
    is ∙ (ap (λ (f : MachineState → ℕ → MachineState). Some (rest_one f (quiet_in h) MAX_QUIET_STEPS hart before)) (steps_kept g h learns)
    ∙ (ap (λ (f : MachineState → ℕ → Bool). Some (rest_one (step_in g) f MAX_QUIET_STEPS hart before)) (quiet_kept g h learns)
    ∙ ap (λ (n : ℕ). Some (rest_first (step_in g) (quiet_in g) MAX_QUIET_STEPS n s)) more))

pub ways_more : (g : GranuleParts) (owners : List (Option ℕ)) (s : MachineState) (hart : ℕ) →
    ways_pass (step_in g) (quiet_in g) (passes_in g owners) MAX_QUIET_STEPS hart s ≡ true →
    way_passes (step_in g) (quiet_in g) (passes_in g owners) hart MAX_QUIET_STEPS
    (rest_first (step_in g) (quiet_in g) MAX_QUIET_STEPS hart s) ≡ true →
    ways_pass (step_in g) (quiet_in g) (passes_in g owners) MAX_QUIET_STEPS (hart + 1) s ≡ true
ways_more g owners s hart first one =
    let more : suc hart ≡ hart + 1 = omega arith in
    subst (λ (n : ℕ). ways_pass (step_in g) (quiet_in g) (passes_in g owners) MAX_QUIET_STEPS n s ≡ true) more
    (ways_on (step_in g) (quiet_in g) (passes_in g owners) MAX_QUIET_STEPS hart s first one)

pub ways_begun : (g : GranuleParts) (owners : List (Option ℕ)) (s : MachineState) →
    ways_pass (step_in g) (quiet_in g) (passes_in g owners) MAX_QUIET_STEPS 0 s ≡ true
unfolding ways_pass
ways_begun g owners s = refl

pub rest_begun : (g : GranuleParts) (row : List ℕ) (s : MachineState) → state_in g row ≡ Some s →
    state_in g row ≡ Some (rest_first (step_in g) (quiet_in g) MAX_QUIET_STEPS 0 s)
unfolding rest_first
rest_begun g row s is = is

-- a node with a state has a row
pub node_row : (meaning : List ℕ → Option MachineState) (nodes : List (List ℕ)) (i : ℕ) (s : MachineState) →
    state_at meaning nodes i ≡ Some s → (row : List ℕ) × (slice_get nodes i ≡ Some row)
node_row meaning nodes i s is = let found = then_some meaning (slice_get nodes i) s is in (found.0, found.1)

-- nodes mean what they did
pub state_at_kept : (g h : GranuleParts) → Learns g h → (nodes : List (List ℕ)) (i : ℕ) (s : MachineState) →
    state_at (state_in g) nodes i ≡ Some s → state_at (state_in h) nodes i ≡ Some s
state_at_kept g h learns nodes i s is =
    let found = then_some (state_in g) (slice_get nodes i) s is in
    ap (option_and_then (state_in h)) found.1 ∙ state_learned g h learns found.0 s found.2

pub state_at_some : (g h : GranuleParts) → Learns g h → (nodes : List (List ℕ)) (i : ℕ) →
    IsSome (state_at (state_in g) nodes i) → IsSome (state_at (state_in h) nodes i)
state_at_some g h learns nodes i some =
    let s = some_of (state_at (state_in g) nodes i) some in
    is_some (state_at (state_in h) nodes i) s.0 (state_at_kept g h learns nodes i s.0 s.1)

pub ways_before : (g h : GranuleParts) → Learns g h → (owners : List (Option ℕ)) (t : MachineState) →
    ways_pass (step_in h) (quiet_in h) (passes_in h owners) MAX_QUIET_STEPS (length h.graph.image.harts) t ≡ true →
    ways_pass (step_in g) (quiet_in g) (passes_in g owners) MAX_QUIET_STEPS (length g.graph.image.harts) t ≡ true
ways_before g h learns owners t holds =
    sym (ap (λ (f : MachineState → ℕ → MachineState). ways_pass f (quiet_in h) (passes_in h owners) MAX_QUIET_STEPS
    (length h.graph.image.harts) t) (steps_kept g h learns)
    ∙ (ap (λ (f : MachineState → ℕ → Bool). ways_pass (step_in g) f (passes_in h owners) MAX_QUIET_STEPS
    (length h.graph.image.harts) t) (quiet_kept g h learns)
    ∙ (ap (λ (f : MachineState → ℕ → Bool). ways_pass (step_in g) (quiet_in g) f MAX_QUIET_STEPS
    (length h.graph.image.harts) t) (passes_kept g h learns owners)
    ∙ ap (λ (i : ImageParts). ways_pass (step_in g) (quiet_in g) (passes_in g owners) MAX_QUIET_STEPS
    (length i.harts) t) learns.graph.image)))
    ∙ holds
