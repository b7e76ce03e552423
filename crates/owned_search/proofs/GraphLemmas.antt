-- What is so of the graph in which harts forget, while it learns more.
use Rattle.std.proofs.Common.{◌≡◌, ℕ, List, refl, sym, ◌∙◌, subst, inl, inr, ◌⊎◌, ap}
use Rattle.std.specs.Prelude.{Bool, Option, Some, slice_get}
use Rattle.cheri_model.specs.runs.Image.{ImageParts}
use Rattle.cheri_model.specs.steps.Hart.{HartState}
use Rattle.explore_sights.specs.declared.sights.Sight.{Sight}
use Rattle.granule_states.specs.Graphs.{GranuleParts, Learns}
use Rattle.granule_states.proofs.TurnLemmas.{learns_on, learns_self}
use Rattle.live_registers.specs.LiveSets.{LiveSets, forgotten_hart}
use Rattle.state_store.specs.Stores.{Keeps, Stored, hart_at}
use Rattle.state_store.proofs.StoreLemmas.{hart_at_kept}
use Rattle.owned_search.specs.Graphs.{ForgettingParts, IsForgetting, IsForgottenNumber, IsGraphOf, Remembers}
use Rattle.owned_search.specs.Nodes.{AreAlike}

-- ---- learning more

pub remembers_self : (g : ForgettingParts) → Remembers g g
remembers_self g = record { live = refl; graph = learns_self g.graph }

pub remembers_on : (g h i : ForgettingParts) → Remembers g h → Remembers h i → Remembers g i
remembers_on g h i first second = record {
  live = second.live ∙ first.live;
  graph = learns_on g.graph h.graph i.graph first.graph second.graph;
}

-- the numbers that are known stay right
number_kept : (live : LiveSets) (old new : Stored) → Keeps old new → (id after : ℕ) → IsForgottenNumber live old id after →
    IsForgottenNumber live new id after
number_kept live old new keeps id after was = record {
  hart = was.hart;
  before = hart_at_kept old new keeps id was.hart was.before;
  there = hart_at_kept old new keeps after (forgotten_hart live was.hart) was.there;
}

pub forgetting_on : (live : LiveSets) (g h : GranuleParts) (known : List (Option ℕ)) → Learns g h →
    IsForgetting live g.graph.store known → IsForgetting live h.graph.store known
forgetting_on live g h known learns was = record {
  numbers = λ id after at. number_kept live g.graph.store h.graph.store learns.graph.keeps id after (was.numbers id after at);
}

-- one number more is known
pub forgetting_more : (live : LiveSets) (store : Stored) (known more : List (Option ℕ)) (place number : ℕ) →
    IsForgetting live store known → IsForgottenNumber live store place number →
    ((k n : ℕ) → slice_get more k ≡ Some (Some n) → (slice_get known k ≡ Some (Some n)) ⊎ ((k ≡ place) × (n ≡ number))) →
    IsForgetting live store more
forgetting_more live store known more place number was new kept = record {
  numbers = λ id after at. elim (kept id after at) [
    | inl old ↦ was.numbers id after old
    | inr this ↦
        subst (λ (k : ℕ). IsForgottenNumber live store k after) (sym this.0)
        (subst (λ (n : ℕ). IsForgottenNumber live store place n) (sym this.1) new)
  ];
}

-- ---- what a call keeps

-- the parts of a graph
abbrev pub parts : LiveSets → GranuleParts → ForgettingParts
parts live graph = record { live = live; graph = graph }

pub remembers_of : (g : ForgettingParts) (live : LiveSets) (graph after : GranuleParts) → parts live graph ≡ g →
    Learns graph after → Remembers g (parts live after)
remembers_of g live graph after is learns =
    subst (λ (p : ForgettingParts). Remembers p (parts live after)) is (record { live = refl; graph = learns })

-- the number of what a hart forgets to be
pub number_made : (live : LiveSets) (g h : GranuleParts) → Learns g h → (id after : ℕ) (store : Stored) (loaded forgotten : HartState) →
    store ≡ g.graph.store → hart_at store id ≡ Some loaded → forgotten ≡ forgotten_hart live loaded →
    hart_at h.graph.store after ≡ Some forgotten → IsForgottenNumber live h.graph.store id after
number_made live g h learns id after store loaded forgotten store_is load forget numbered = record {
  hart = loaded;
  before = hart_at_kept g.graph.store h.graph.store learns.graph.keeps id loaded
      (ap (λ (st : Stored). hart_at st id) (sym store_is) ∙ load);
  there = numbered ∙ ap (λ (x : HartState). Some x) forget;
}

-- ---- graphs of the same turns

pub alike_remembers : (g h : ForgettingParts) → Remembers g h → AreAlike g h
alike_remembers g h remembers = record {
  image_is = remembers.graph.graph.image;
  sight_is = remembers.graph.sight;
  live_is = remembers.live;
  shared_is = remembers.graph.shared;
}

module _ (image : ImageParts) (sight : Sight) (live : LiveSets) (shared : List Bool) (g : ForgettingParts)
    (of : IsGraphOf image sight live shared g) where
  -- what is made of what decides where turns lead
  pub graph_to : {X : Type 0} (f : ImageParts → Sight → LiveSets → List Bool → X) →
      f g.graph.graph.image g.graph.sight g.live g.graph.shared ≡ f image sight live shared
  graph_to f =
      ap (λ (i : ImageParts). f i g.graph.sight g.live g.graph.shared) of.image_is
      ∙ (ap (λ (x : Sight). f image x g.live g.graph.shared) of.sight_is
      ∙ (ap (λ (l : LiveSets). f image sight l g.graph.shared) of.live_is
      ∙ ap (λ (bs : List Bool). f image sight live bs) of.shared_is))

  -- what is so of one is so of the other
  pub graph_on : (P : ImageParts → Sight → LiveSets → List Bool → Type 0) →
      P g.graph.graph.image g.graph.sight g.live g.graph.shared → P image sight live shared
  graph_on P is =
      subst (λ (i : ImageParts). P i sight live shared) of.image_is
      (subst (λ (x : Sight). P g.graph.graph.image x live shared) of.sight_is
      (subst (λ (l : LiveSets). P g.graph.graph.image g.graph.sight l shared) of.live_is
      (subst (λ (bs : List Bool). P g.graph.graph.image g.graph.sight g.live bs) of.shared_is is)))

  pub graph_back : (P : ImageParts → Sight → LiveSets → List Bool → Type 0) → P image sight live shared →
      P g.graph.graph.image g.graph.sight g.live g.graph.shared
  graph_back P is =
      subst (λ (i : ImageParts). P i g.graph.sight g.live g.graph.shared) (sym of.image_is)
      (subst (λ (x : Sight). P image x g.live g.graph.shared) (sym of.sight_is)
      (subst (λ (l : LiveSets). P image sight l g.graph.shared) (sym of.live_is)
      (subst (λ (bs : List Bool). P image sight live bs) (sym of.shared_is) is)))

-- a graph that is alike is of the same
pub graph_alike : (image : ImageParts) (sight : Sight) (live : LiveSets) (shared : List Bool) (g h : ForgettingParts) →
    IsGraphOf image sight live shared g → AreAlike g h → IsGraphOf image sight live shared h
graph_alike image sight live shared g h of alike =
    graph_on image sight live shared g of (λ (i : ImageParts) (x : Sight) (l : LiveSets) (bs : List Bool). IsGraphOf i x l bs h) alike
