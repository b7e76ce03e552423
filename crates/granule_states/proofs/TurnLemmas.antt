-- What is so of the graph of turns, while it learns more.
use Rattle.std.proofs.Common.{◌≡◌, ℕ, ◌+◌, ◌<◌, ◌*◌, List, [], length, ap, sym, ◌∙◌, refl, subst, nat_lt}
use Rattle.std.specs.Prelude.{Bool, true, false, Option, Some, None, option_map, if◌then◌else◌}
use Rattle.std.proofs.lemmas.Bool.{lt-ltb}
use Rattle.cheri_model.specs.runs.Image.{ImageParts}
use Rattle.cheri_model.specs.runs.ImageRules.{is_image}
use Rattle.cheri_model.specs.runs.Machine.{MachineState, state_after_step}
use Rattle.cheri_model.specs.steps.Hart.{HartState}
use Rattle.explore_sights.specs.declared.sights.Sight.{Sight}
use Rattle.explore_sights.specs.declared.sights.Sight.TheVariants.{EveryStep}
use Rattle.explore_sights.specs.Sights.{hides}
use Rattle.explore_turns.specs.declared.quiet.TheConstants.{MAX_QUIET_STEPS}
use Rattle.explore_turns.proofs.PassingLemmas.{seen_rests, seen_states_rest, seen_turns}
use Rattle.explore_turns.specs.Turns.{resting}
use Rattle.own_granules.specs.Granules.{is_quiet}
use Rattle.graph_search.specs.Graphs.{LeadsTo}
use Rattle.own_granules.specs.Rests.{rest_after, rest_first, rest_one}
use Rattle.own_granules.specs.Turns.{turn}
use Rattle.state_store.proofs.NumberedLemmas.{some_of}
use Rattle.schedules.specs.Schedules.{next}
use Rattle.states.specs.Graphs.{Continues, GraphParts}
use Rattle.states.specs.Graphs as plain
use Rattle.states.proofs.NodeLemmas.{continues_on, continues_self, is_some, state_kept, states_same, turns_same}
use Rattle.granule_states.specs.Graphs.{GranuleParts, IsGranuleGraph, Learns, is_shared, quiet_in, state_in, step_in, turn_in}

-- the graph of all steps has the machine's steps
pub steps_of : (g : GraphParts) (s : MachineState) (l : ℕ) → g.sweeps ≡ [] → g.sight ≡ EveryStep →
    plain.turn_in g s l ≡ next g.image [] s l
steps_of g s l unswept seen =
    ap (λ (f : MachineState → ℕ → Option MachineState). f s l) (turns_same g g.image [] EveryStep refl unswept seen)
    ∙ seen_turns g.image [] s l

-- ---- learning more

pub learns_self : (g : GranuleParts) → Learns g g
learns_self g = record { graph = continues_self g.graph; sight = refl; shared = refl }

pub learns_on : (g h i : GranuleParts) → Learns g h → Learns h i → Learns g i
learns_on g h i first second = record {
  graph = continues_on g.graph h.graph i.graph first.graph second.graph;
  sight = second.sight ∙ first.sight;
  shared = second.shared ∙ first.shared;
}

pub granules_on : (g h : GraphParts) (row more : List ℕ) → Continues g h → IsGranuleGraph g row → length more ≡ length row →
    IsGranuleGraph h more
granules_on g h row more continues was same = record {
  formed = subst (λ (i : ImageParts). is_image i ≡ true) (sym continues.image) was.formed;
  unswept = continues.sweeps ∙ was.unswept;
  seen = continues.sight ∙ was.seen;
  granules = ap (λ (n : ℕ). 16 * n) continues.keeps.granules ∙ (was.granules ∙ ap (λ (i : ImageParts). i.ram) (sym continues.image));
  row_size = same ∙ (was.row_size ∙ ap (λ (i : ImageParts). length i.harts + 1) (sym continues.image));
}

-- the parts of a graph
abbrev pub parts : GraphParts → Sight → List Bool → GranuleParts
parts graph sight shared = record { graph = graph; sight = sight; shared = shared }

pub learns_of : (g : GranuleParts) (graph after : GraphParts) (sight : Sight) (shared : List Bool) →
    parts graph sight shared ≡ g → Continues graph after → Learns g (parts after sight shared)
learns_of g graph after sight shared is continues =
    subst (λ (p : GranuleParts). Learns p (parts after sight shared)) is
    (record { graph = continues; sight = refl; shared = refl })

-- steps are the same, and are quiet as before
pub steps_kept : (g h : GranuleParts) → Learns g h → step_in h ≡ step_in g
steps_kept g h learns = ap (λ (i : ImageParts). state_after_step i) learns.graph.image

pub quiet_kept : (g h : GranuleParts) → Learns g h → quiet_in h ≡ quiet_in g
quiet_kept g h learns =
    ap (λ (i : ImageParts). is_quiet i [] (is_shared h.shared) (hides h.sight)) learns.graph.image
    ∙ (ap (λ (bs : List Bool). is_quiet g.graph.image [] (is_shared bs) (hides h.sight)) learns.shared
    ∙ ap (λ (x : Sight). is_quiet g.graph.image [] (is_shared g.shared) (hides x)) learns.sight)

pub turns_kept : (g h : GranuleParts) → Learns g h → turn_in h ≡ turn_in g
turns_kept g h learns =
    ap (λ (i : ImageParts). turn i [] (is_shared h.shared) (hides h.sight) MAX_QUIET_STEPS) learns.graph.image
    ∙ (ap (λ (bs : List Bool). turn g.graph.image [] (is_shared bs) (hides h.sight) MAX_QUIET_STEPS) learns.shared
    ∙ ap (λ (x : Sight). turn g.graph.image [] (is_shared g.shared) (hides x) MAX_QUIET_STEPS) learns.sight)

-- ---- a step that is quiet, or isn't

-- rows mean what they did
pub state_learned : (g h : GranuleParts) → Learns g h → (row : List ℕ) (s : MachineState) → state_in g row ≡ Some s →
    state_in h row ≡ Some s
state_learned g h learns row s is = state_kept g.graph h.graph learns.graph row s is

pub quiet_now : (g h : GranuleParts) → Learns g h → (t : MachineState) (hart : ℕ) (moves is : Bool) → moves ≡ quiet_in h t hart →
    moves ≡ is → quiet_in g t hart ≡ is
quiet_now g h learns t hart moves is told same =
    ap (λ (f : MachineState → ℕ → Bool). f t hart) (sym (quiet_kept g h learns)) ∙ (sym told ∙ same)

pub still_there : (g h : GranuleParts) (row : List ℕ) (t : MachineState) (hart : ℕ) (moves : Bool) →
    state_in h row ≡ Some (if moves then step_in g t hart else t) → moves ≡ false → state_in h row ≡ Some t
still_there g h row t hart moves is none = is ∙ ap (λ (b : Bool). Some (if b then step_in g t hart else t)) none

pub stepped_there : (g h i : GranuleParts) → Learns g h → (row : List ℕ) (t : MachineState) (hart : ℕ) (moves : Bool) →
    state_in i row ≡ Some (if moves then step_in h t hart else t) → moves ≡ true → state_in i row ≡ Some (step_in g t hart)
stepped_there g h i learns row t hart moves is holds =
    is ∙ (ap (λ (b : Bool). Some (if b then step_in h t hart else t)) holds
    ∙ ap (λ (f : MachineState → ℕ → MachineState). Some (f t hart)) (steps_kept g h learns))

-- ---- where turns lead

-- a step led somewhere
pub edge_there : (g h : GraphParts) (to : List ℕ) (s : MachineState) (l : ℕ) (leads : Bool) → g.sweeps ≡ [] → g.sight ≡ EveryStep →
    leads ≡ true → LeadsTo (plain.state_in h) leads to (plain.turn_in g s l) →
    (t : MachineState) × (next g.image [] s l ≡ Some t) × (plain.state_in h to ≡ Some t)
edge_there g h to s l leads unswept seen holds leading =
    let there : LeadsTo (plain.state_in h) true to (plain.turn_in g s l) =
    subst (λ (b : Bool). LeadsTo (plain.state_in h) b to (plain.turn_in g s l)) holds leading in
    let t = some_of (plain.turn_in g s l) there.0 in
    (t.0, sym (steps_of g s l unswept seen) ∙ t.1, there.1 ∙ t.1)

-- or nowhere, and so does the turn
pub no_edge : (g h : GraphParts) (sight : Sight) (shared : List Bool) (p : GranuleParts) (to : List ℕ) (s : MachineState) (l : ℕ)
    (leads : Bool) → parts g sight shared ≡ p → g.sweeps ≡ [] → g.sight ≡ EveryStep →
    leads ≡ false → LeadsTo (plain.state_in h) leads to (plain.turn_in g s l) → turn_in p s l ≡ None
no_edge g h sight shared p to s l leads is unswept seen fails leading =
    let none : plain.turn_in g s l ≡ None =
    subst (λ (b : Bool). LeadsTo (plain.state_in h) b to (plain.turn_in g s l)) fails leading in
    let stuck : next g.image [] s l ≡ None = sym (steps_of g s l unswept seen) ∙ none in
    let also : next p.graph.image [] s l ≡ None = ap (λ (q : GranuleParts). next q.graph.image [] s l) (sym is) ∙ stuck in
    ap (option_map (rest_after (step_in p) (quiet_in p) MAX_QUIET_STEPS (length p.graph.image.harts) l)) also

-- after a hart's step it comes to its rest
pub turn_of_hart : (p : GranuleParts) (s t : MachineState) (l : ℕ) → l < length p.graph.image.harts → next p.graph.image [] s l ≡ Some t →
    turn_in p s l ≡ Some (rest_one (step_in p) (quiet_in p) MAX_QUIET_STEPS l t)
unfolding rest_after
turn_of_hart p s t l low goes =
    let below : nat_lt l (length p.graph.image.harts) ≡ true = lt-ltb l (length p.graph.image.harts) low in
    ap (option_map (rest_after (step_in p) (quiet_in p) MAX_QUIET_STEPS (length p.graph.image.harts) l)) goes
    ∙ ap (λ (b : Bool). Some (if b then rest_one (step_in p) (quiet_in p) MAX_QUIET_STEPS l t
    else rest_first (step_in p) (quiet_in p) MAX_QUIET_STEPS (length p.graph.image.harts) t)) below

pub turn_there : (p q r : GranuleParts) → Learns p q → (to : List ℕ) (s t : MachineState) (l : ℕ) → l < length p.graph.image.harts →
    next p.graph.image [] s l ≡ Some t →
    state_in r to ≡ Some (rest_one (step_in q) (quiet_in q) MAX_QUIET_STEPS l t) → LeadsTo (state_in r) true to (turn_in p s l)
turn_there p q r learns to s t l low goes there =
    let turned = turn_of_hart p s t l low goes in
    let same : rest_one (step_in q) (quiet_in q) MAX_QUIET_STEPS l t ≡ rest_one (step_in p) (quiet_in p) MAX_QUIET_STEPS l t =
    ap (λ (f : MachineState → ℕ → MachineState). rest_one f (quiet_in q) MAX_QUIET_STEPS l t) (steps_kept p q learns)
    ∙ ap (λ (f : MachineState → ℕ → Bool). rest_one (step_in p) f MAX_QUIET_STEPS l t) (quiet_kept p q learns) in (
      is_some (turn_in p s l) (rest_one (step_in p) (quiet_in p) MAX_QUIET_STEPS l t) turned,
      there ∙ (ap (λ (x : MachineState). Some x) same ∙ sym turned),
    )

-- where all steps are seen, each state is at rest
pub rest_is : (g : GraphParts) (s : MachineState) → g.sweeps ≡ [] → g.sight ≡ EveryStep → plain.rest_in g s ≡ s
rest_is g s unswept seen = states_same g g.image [] EveryStep s refl unswept seen ∙ seen_states_rest g.image [] s

pub hart_is : (g : GraphParts) (h : HartState) → g.sight ≡ EveryStep → plain.rests_in g h ≡ h
hart_is g h seen = ap (λ (x : Sight). resting g.image g.sweeps x h) seen ∙ seen_rests g.image g.sweeps h
