-- Rows of states, and steps of harts in them.
use Rattle.std.proofs.Common.{◌≡◌, ℕ, ◌+◌, ◌*◌, ◌/◌, ◌<◌, ◌≤◌, List, [], length, arith, ap, sym, ◌∙◌, refl, subst}
use Rattle.std.specs.Prelude.{Bool, true, false, Option, Some, IsSome, slice_index_or}
use Rattle.std.proofs.lemmas.List.{get_or_default}
use Rattle.std.proofs.lemmas.Option.{none-some, same_Some}
use Rattle.cheri_model.specs.declared.instr.Instr.{Instr}
use Rattle.cheri_model.specs.runs.Image.{ImageParts}
use Rattle.cheri_model.specs.runs.ImageRules.{is_image}
use Rattle.cheri_model.specs.runs.Machine.{MachineState, hart_at, is_running, state_after_step, stepped}
use Rattle.cheri_model.specs.steps.Hart.{HartState}
use Rattle.explore_sights.specs.declared.sights.Sight.TheVariants.{EveryStep}
use Rattle.explore_turns.specs.QuietSteps.{asks_memory}
use Rattle.graph_search.specs.Graphs.{LeadsTo}
use Rattle.own_granules.specs.Granules.{asks_store}
use Rattle.state_store.specs.Stores.{Stored}
use Rattle.state_store.specs.Stores as stores
use Rattle.state_store.proofs.NumberedLemmas.{some_of}
use Rattle.states.specs.Graphs.{Continues, GraphParts, state_in, turn_in}
use Rattle.states.specs.Locals.{touched}
use Rattle.states.proofs.NodeLemmas.{is_some, node_of, state_kept}
use Rattle.states.proofs.SizeLemmas.{sizes_of}
use Rattle.granule_states.specs.Accesses.{IsAsked}
use Rattle.granule_states.specs.declared.accesses.Access.{Access}
use Rattle.granule_states.proofs.QuietLemmas.{hart_after, runs_on}
use Rattle.granule_states.proofs.TurnLemmas.{steps_of}

-- What a row says of one of its harts.
pub record IsPlace (g : GraphParts) (row : List ℕ) (s : MachineState) (l : ℕ) : Type 0 where
  pub within : l + 1 < length row
  pub low : l < length s.harts
  pub hart : stores.hart_at g.store (slice_index_or row (l + 1) 0) ≡ Some (hart_at s l)

pub place_of : (g : GraphParts) (row : List ℕ) (s : MachineState) (l : ℕ) → state_in g row ≡ Some s → l < length g.image.harts →
    IsPlace g row s l
place_of g row s l is there =
    let node = node_of g row s is in
    let width = node.width in
    let count = node.count in
    record {
      within = omega arith;
      low = omega arith;
      hart = node.hart l there;
    }

-- the hart that was loaded
pub loaded_is : (g : GraphParts) (store : Stored) (row : List ℕ) (s : MachineState) (l : ℕ) (loaded : HartState) →
    state_in g row ≡ Some s → l < length g.image.harts → store ≡ g.store →
    stores.hart_at store (slice_index_or row (l + 1) 0) ≡ Some loaded → loaded ≡ hart_at s l
loaded_is g store row s l loaded is there same load =
    same_Some loaded (hart_at s l)
    (sym load ∙ (ap (λ (st : Stored). stores.hart_at st (slice_index_or row (l + 1) 0)) same ∙ (place_of g row s l is there).hart))

pub some_loaded : (g : GraphParts) (store : Stored) (row : List ℕ) (l : ℕ) → IsSome (state_in g row) → l < length g.image.harts →
    store ≡ g.store → IsSome (stores.hart_at store (slice_index_or row (l + 1) 0))
some_loaded g store row l meant there same =
    let s = some_of (state_in g row) meant in
    is_some (stores.hart_at store (slice_index_or row (l + 1) 0)) (hart_at s.0 l)
    (ap (λ (st : Stored). stores.hart_at st (slice_index_or row (l + 1) 0)) same ∙ (place_of g row s.0 l s.1 there).hart)

pub place_within : (g : GraphParts) (row : List ℕ) (l : ℕ) → IsSome (state_in g row) → l < length g.image.harts → l + 1 < length row
place_within g row l meant there =
    let s = some_of (state_in g row) meant in (place_of g row s.0 l s.1 there).within

-- what its step asks of memory
pub asked_of : (image : ImageParts) (program : List Instr) (granules : ℕ) (loaded hart : HartState) (access : Access) →
    program ≡ image.program → 16 * granules ≡ image.ram → loaded ≡ hart → is_running loaded.status ≡ true →
    access.asks ≡ asks_memory program loaded → access.granule ≡ touched program granules loaded →
    access.stores ≡ asks_store program loaded → IsAsked image hart access
asked_of image program granules loaded hart access same size is runs asks granule stored =
    let count : granules ≡ image.ram / 16 = omega arith in
    record {
      runs = subst (λ (h : HartState). is_running h.status ≡ true) is runs;
      asks = asks ∙ (ap (λ (p : List Instr). asks_memory p loaded) same ∙ ap (asks_memory image.program) is);
      granule = granule ∙ (ap (λ (p : List Instr). touched p granules loaded) same
          ∙ (ap (λ (n : ℕ). touched image.program n loaded) count ∙ ap (touched image.program (image.ram / 16)) is));
      stores = stored ∙ (ap (λ (p : List Instr). asks_store p loaded) same ∙ ap (asks_store image.program) is);
    }

-- memories have from 1 to 65536 granules
pub record AreGranules (granules : ℕ) : Type 0 where
  pub some : 0 < granules
  pub few : granules ≤ 65536

pub granules_of : (image : ImageParts) (granules count : ℕ) → is_image image ≡ true → 16 * granules ≡ image.ram → count ≡ granules →
    AreGranules count
granules_of image granules count formed size same =
    let sizes = sizes_of image formed in
    let low = sizes.ram_some in
    let high = sizes.ram_few in
    record { some = omega arith; few = omega arith }

-- What is so after a step of a hart that runs was followed.
pub record IsFollowed (g h : GraphParts) (row to : List ℕ) (s : MachineState) (l : ℕ) (leads : Bool) : Type 0 where
  pub there : leads ≡ true
  pub state : state_in h to ≡ Some (state_after_step g.image s l)
  pub stays : state_in h row ≡ Some s
  pub before : stores.hart_at h.store (slice_index_or row (l + 1) 0) ≡ Some (hart_at s l)
  pub after : stores.hart_at h.store (slice_index_or to (l + 1) 0) ≡ Some (stepped g.image s l).hart

led : (meaning : List ℕ → Option MachineState) (leads : Bool) (to : List ℕ) (t : MachineState) (end : Option MachineState) →
    end ≡ Some t → LeadsTo meaning leads to end → (leads ≡ true) × (meaning to ≡ Some t)
led meaning true to t end is leading = (refl, leading.1 ∙ is)
led meaning false to t end is leading = absurd (none-some t (sym leading ∙ is))

pub followed : (g h : GraphParts) → Continues g h → g.sweeps ≡ [] → g.sight ≡ EveryStep → (row to : List ℕ) (s : MachineState) (l : ℕ)
    (leads : Bool) → state_in g row ≡ Some s → l < length g.image.harts → is_running (hart_at s l).status ≡ true →
    LeadsTo (state_in h) leads to (turn_in g s l) → IsFollowed g h row to s l leads
followed g h continues unswept seen row to s l leads is there runs leading =
    let place = place_of g row s l is there in
    let step = state_after_step g.image s l in
    let goes : turn_in g s l ≡ Some step =
    steps_of g s l unswept seen ∙ runs_on g.image (λ granule. true) (λ a b. true) s l place.low there runs in
    let end = led (state_in h) leads to step (turn_in g s l) goes leading in
    let stays = state_kept g h continues row s is in
    let also : l < length h.image.harts = subst (λ (i : ImageParts). l < length i.harts) (sym continues.image) there in
    record {
      there = end.0;
      state = end.1;
      stays = stays;
      before = (place_of h row s l stays also).hart;
      after = (place_of h to step l end.1 also).hart
          ∙ ap (λ (x : HartState). Some x) (hart_after g.image (λ granule. true) (λ a b. true) s l place.low);
    }

-- the hart whose number was read from a row
pub after_is : (store : Stored) (row : List ℕ) (place id : ℕ) (hart : HartState) → place < length row →
    id ≡ slice_index_or row place id → stores.hart_at store (slice_index_or row place 0) ≡ Some hart →
    stores.hart_at store id ≡ Some hart
after_is store row place id hart within is there =
    ap (stores.hart_at store) (is ∙ get_or_default row place id 0 within) ∙ there

pub after_some : (store : Stored) (row : List ℕ) (place id : ℕ) (hart : HartState) → place < length row →
    id ≡ slice_index_or row place id → stores.hart_at store (slice_index_or row place 0) ≡ Some hart →
    IsSome (stores.hart_at store id)
after_some store row place id hart within is there =
    is_some (stores.hart_at store id) hart (after_is store row place id hart within is there)

-- a row is short
pub row_short : (g : GraphParts) (row : List ℕ) → IsSome (state_in g row) → is_image g.image ≡ true → length row ≤ 9
row_short g row meant formed =
    let s = some_of (state_in g row) meant in
    let width = (node_of g row s.0 s.1).width in
    let few = (sizes_of g.image formed).harts_few in
    omega arith
