-- What is so of the graph in which harts forget, while it learns more.
use Rattle.std.proofs.Common.{◌≡◌, ℕ, ◌≤◌, List, [], length, refl, sym, ap, ◌∙◌, subst, inl, inr, ◌⊎◌}
use Rattle.std.specs.Prelude.{Option, Some, slice_get}
use Rattle.std.proofs.lemmas.Option.{same_Some}
use Rattle.cheri_model.specs.runs.Image.{ImageParts}
use Rattle.cheri_model.specs.runs.Machine.{MachineState}
use Rattle.cheri_model.specs.steps.Hart.{HartState}
use Rattle.explore_sights.specs.declared.sights.Sight.{Sight}
use Rattle.explore_sights.specs.Sights.{hides}
use Rattle.explore_turns.specs.declared.quiet.TheConstants.{MAX_QUIET_STEPS}
use Rattle.explore_turns.specs.QuietSteps.{rest}
use Rattle.forgotten_runs.specs.ForgottenRuns.{forgotten_state}
use Rattle.forgotten_turns.specs.ForgottenTurns.{HidesForgotten, forgotten_turn}
use Rattle.forgotten_turns.proofs.ForgettingLemmas.{forgotten_rests}
use Rattle.forgotten_turns.proofs.OrderLemmas.{live_forgets}
use Rattle.graph_merging.specs.Merging.{merged}
use Rattle.hart_order.specs.Arrangements.{arranged_state}
use Rattle.hart_order.specs.GroupedTurns.{grouped_turn}
use Rattle.live_registers.specs.LiveSets.{IsRight, LiveSets, forgotten_hart}
use Rattle.schedules.specs.declared.ranges.SweepRange.{SweepRange}
use Rattle.state_store.specs.Stores.{Keeps, Stored, hart_at}
use Rattle.state_store.proofs.StoreLemmas.{hart_at_kept}
use Rattle.states.specs.Graphs.{Continues, GraphParts, rests_in}
use Rattle.states.specs.Graphs as plain
use Rattle.states.proofs.NodeLemmas.{continues_on, continues_self, turns_same}
use Rattle.forgotten_states.specs.Graphs.{ForgottenParts, IsForgetting, IsForgottenNumber, Remembers, forgotten_in, turn_in}

-- turns are put together of their parts
turns_put : (goes other : MachineState → ℕ → Option MachineState) (groups also : List ℕ) → goes ≡ other → groups ≡ also →
    merged goes (arranged_state groups) ≡ merged other (arranged_state also)
turns_put goes other groups also same alike =
    ap (λ (f : MachineState → ℕ → Option MachineState). merged f (arranged_state groups)) same
    ∙ ap (λ (gs : List ℕ). merged other (arranged_state gs)) alike

-- a graph of an image without sweeps, of a sight, of these registers and groups has their turns
pub forgotten_of : (g : ForgottenParts) (image : ImageParts) (sight : Sight) (live : LiveSets) → g.live ≡ live →
    g.graph.image ≡ image → g.graph.sweeps ≡ [] → g.graph.sight ≡ sight → forgotten_in g ≡ forgotten_turn image sight live
forgotten_of g image sight live live_is image_is unswept sight_is =
    ap (λ (l : LiveSets). merged (plain.turn_in g.graph) (forgotten_state l)) live_is
    ∙ ap (λ (goes : MachineState → ℕ → Option MachineState). merged goes (forgotten_state live))
    (turns_same g.graph image [] sight image_is unswept sight_is)

pub turns_of : (g : ForgottenParts) (image : ImageParts) (sight : Sight) (live : LiveSets) (groups : List ℕ) → g.live ≡ live →
    g.groups ≡ groups → g.graph.image ≡ image → g.graph.sweeps ≡ [] → g.graph.sight ≡ sight →
    turn_in g ≡ grouped_turn image sight live groups
turns_of g image sight live groups live_is groups_are image_is unswept sight_is =
    turns_put (forgotten_in g) (forgotten_turn image sight live) g.groups groups
    (forgotten_of g image sight live live_is image_is unswept sight_is) groups_are

-- ---- learning more

pub remembers_self : (g : ForgottenParts) → Remembers g g
remembers_self g = record { live = refl; groups = refl; graph = continues_self g.graph }

pub remembers_on : (g h i : ForgottenParts) → Remembers g h → Remembers h i → Remembers g i
remembers_on g h i first second = record {
  live = second.live ∙ first.live;
  groups = second.groups ∙ first.groups;
  graph = continues_on g.graph h.graph i.graph first.graph second.graph;
}

number_kept : (live : LiveSets) (a b : Stored) → Keeps a b → (id after : ℕ) → IsForgottenNumber live a id after →
    IsForgottenNumber live b id after
number_kept live a b keeps id after was = record {
  hart = was.hart;
  before = hart_at_kept a b keeps id was.hart was.before;
  there = hart_at_kept a b keeps after (forgotten_hart live was.hart) was.there;
}

pub forgetting_on : (live : LiveSets) (g h : GraphParts) (known : List (Option ℕ)) → Continues g h → IsForgetting live g known →
    IsForgetting live h known
forgetting_on live g h known continues was = record {
  right = subst (λ (image : ImageParts). IsRight image.program live) (sym continues.image) was.right;
  hidden = subst (λ (sight : Sight). HidesForgotten live (hides sight)) (sym continues.sight) was.hidden;
  unswept = continues.sweeps ∙ was.unswept;
  few = subst (λ (image : ImageParts). length image.harts ≤ 8) (sym continues.image) was.few;
  numbers = λ id after at. number_kept live g.store h.store continues.keeps id after (was.numbers id after at);
}

-- one number more is known
pub forgetting_more : (live : LiveSets) (g : GraphParts) (known more : List (Option ℕ)) (place number : ℕ) →
    IsForgetting live g known → IsForgottenNumber live g.store place number →
    ((k n : ℕ) → slice_get more k ≡ Some (Some n) → (slice_get known k ≡ Some (Some n)) ⊎ ((k ≡ place) × (n ≡ number))) →
    IsForgetting live g more
forgetting_more live g known more place number was new kept = record {
  right = was.right;
  hidden = was.hidden;
  unswept = was.unswept;
  few = was.few;
  numbers = λ id after at. elim (kept id after at) [
    | inl old ↦ was.numbers id after old
    | inr this ↦
        subst (λ (k : ℕ). IsForgottenNumber live g.store k after) (sym this.0)
        (subst (λ (n : ℕ). IsForgottenNumber live g.store place n) (sym this.1) new)
  ];
}

-- what a hart at its rest forgets to be is at its rest
pub rests_forgotten : (live : LiveSets) (g : GraphParts) (known : List (Option ℕ)) → IsForgetting live g known → (h : HartState) →
    rests_in g h ≡ h → rests_in g (forgotten_hart live h) ≡ forgotten_hart live h
rests_forgotten live g known inv h stays =
    let program = g.image.program in
    let rests : HartState → HartState = λ x. rest program [] (hides g.sight) MAX_QUIET_STEPS x in
    let here : rests h ≡ h =
    subst (λ (ss : List SweepRange). rest program ss (hides g.sight) MAX_QUIET_STEPS h ≡ h) inv.unswept stays in
    let there : rests (forgotten_hart live h) ≡ forgotten_hart live h =
    ap (λ (x : HartState). rests (forgotten_hart live x)) (sym here)
    ∙ (forgotten_rests program (forgotten_hart live) (live_forgets program live inv.right) (hides g.sight)
    (λ before after. inv.hidden before after) MAX_QUIET_STEPS h ∙ ap (forgotten_hart live) here) in
    subst (λ (ss : List SweepRange). rest program ss (hides g.sight) MAX_QUIET_STEPS (forgotten_hart live h) ≡ forgotten_hart live h)
    (sym inv.unswept) there

-- ---- what a call keeps

-- the parts of a graph
abbrev pub parts : LiveSets → List ℕ → GraphParts → ForgottenParts
parts live groups graph = record { live = live; groups = groups; graph = graph }

pub remembers_of : (g : ForgottenParts) (live : LiveSets) (groups : List ℕ) (graph after : GraphParts) →
    parts live groups graph ≡ g → Continues graph after → Remembers g (parts live groups after)
remembers_of g live groups graph after is continues =
    subst (λ (p : ForgottenParts). Remembers p (parts live groups after)) is
    (record { live = refl; groups = refl; graph = continues })

pub forgotten_kept : (g h : ForgottenParts) → Remembers g h → forgotten_in h ≡ forgotten_in g
forgotten_kept g h remembers =
    ap (λ (l : LiveSets). merged (plain.turn_in h.graph) (forgotten_state l)) remembers.live
    ∙ ap (λ (goes : MachineState → ℕ → Option MachineState). merged goes (forgotten_state g.live))
    (turns_same h.graph g.graph.image g.graph.sweeps g.graph.sight remembers.graph.image remembers.graph.sweeps remembers.graph.sight)

pub turns_kept : (g h : ForgottenParts) → Remembers g h → turn_in h ≡ turn_in g
turns_kept g h remembers =
    turns_put (forgotten_in h) (forgotten_in g) h.groups g.groups (forgotten_kept g h remembers) remembers.groups

-- the number of what a hart at its rest forgets to be
pub number_made : (p : ForgottenParts) (live : LiveSets) (groups : List ℕ) (g h : GraphParts) (known : List (Option ℕ)) →
    parts live groups g ≡ p →
    IsForgetting live g known → Continues g h → (id after : ℕ) (store : Stored) (loaded forgotten : HartState) →
    (hart : HartState) × (hart_at p.graph.store id ≡ Some hart) × (rests_in p.graph hart ≡ hart) → store ≡ g.store →
    hart_at store id ≡ Some loaded → forgotten ≡ forgotten_hart live loaded → hart_at h.store after ≡ Some (rests_in g forgotten) →
    IsForgottenNumber live h.store id after
number_made p live groups g h known is inv continues id after store loaded forgotten was store_is load forget numbered =
    let before : hart_at g.store id ≡ Some was.0 = ap (λ (q : ForgottenParts). hart_at q.graph.store id) is ∙ was.1 in
    let stays : rests_in g was.0 ≡ was.0 = ap (λ (q : ForgottenParts). rests_in q.graph was.0) is ∙ was.2 in
    let same : loaded ≡ was.0 = same_Some loaded was.0 (sym load ∙ (ap (λ (st : Stored). hart_at st id) store_is ∙ before)) in
    record {
      hart = was.0;
      before = hart_at_kept g.store h.store continues.keeps id was.0 before;
      there = numbered ∙ (ap (λ (x : HartState). Some (rests_in g x)) (forget ∙ ap (forgotten_hart live) same)
          ∙ ap (λ (x : HartState). Some x) (rests_forgotten live g known inv was.0 stays));
    }
