-- A step that is taken in a memory where a value was stored in the hart's granule.
use Rattle.std.proofs.Common.{◌≡◌, ℕ, ◌+◌, ◌*◌, ◌<◌, List, length, arith, ap, sym, ◌∙◌, refl, subst, length-set}
use Rattle.std.specs.Prelude.{Some, slice_get, slice_set, slice_index_or, IsTrue, Bool, true, if◌then◌else◌}
use Rattle.std.proofs.lemmas.List.{get_or-set_same}
use Rattle.std.proofs.lemmas.Option.{slice_get-get_or}
use Rattle.cap_model.specs.values.CapValue.{CapValue, raw}
use Rattle.cheri_model.specs.declared.instr.Instr.{Instr}
use Rattle.cheri_model.specs.steps.Hart.{HartState}
use Rattle.cheri_model.specs.steps.HartStep.{Stepped, hart_step}
use Rattle.cheri_model.specs.steps.Memory.{granule_at, granule_number, store_capability, fits}
use Rattle.cheri_model.proofs.Granules.ImageGranules.{placed_fits}
use Rattle.cheri_model.specs.runs.Machine.{is_running}
use Rattle.state_store.specs.Stores.{Stored, hart_at, Keeps}
use Rattle.state_store.proofs.StoreLemmas.{hart_at_kept, keeps_on}
use Rattle.states.specs.Graphs.{GraphParts, Continues, Runs, rests_in}
use Rattle.states.specs.declared.steps.KnownStep.{KnownStep}
use Rattle.states.specs.Locals.{touched, local_step, local_value, stopped, IsLocalStep, IsTabled}
use Rattle.states.proofs.TouchLemmas.{IsLocal, step_is_local, touched_within}
use Rattle.states.proofs.NodeLemmas.{site_there}

-- a granule fits the memory that has it
pub granule_fits : (ram : List CapValue) (site addr : ℕ) → site < length ram → addr ≡ 2147483648 + 16 * site →
    IsTrue (fits ram addr 16)
granule_fits ram site addr within is =
    placed_fits (16 * length ram) ram (addr, raw 0) refl
    (record { aligned = omega arith; from = omega arith; to = omega arith })

-- what such a step leaves
pub record IsTaken (program : List Instr) (granules : ℕ) (h : HartState) (v : CapValue) (site : ℕ) (after : HartState)
    (memory : List CapValue) : Type 0 where
  pub size : length memory ≡ granules
  pub hart : after ≡ (local_step program granules h v).hart
  pub value : granule_at memory site ≡ local_value program granules h v

module _ (program : List Instr) (ram : List CapValue) (h : HartState) (v : CapValue) (site addr : ℕ) (some : 0 < length ram)
    (at : site ≡ touched program (length ram) h) (place : addr ≡ 2147483648 + 16 * site) where
  abbrev before : List CapValue
  before = slice_set ram site v

  within : site < length ram
  within = subst (λ (n : ℕ). n < length ram) (sym at) (touched_within program (length ram) h some)

  size : length before ≡ length ram
  size = length-set ram site v

  stored : store_capability ram addr v ≡ before
  unfolding store_capability
  stored = let number : granule_number addr ≡ site = omega arith in ap (λ (k : ℕ). slice_set ram k v) number

  there : granule_at before site ≡ v
  unfolding granule_at
  there = get_or-set_same ram site v (raw 0) within

  at_size : site ≡ touched program (length before) h
  at_size = at ∙ ap (λ (n : ℕ). touched program n h) (sym size)

  local : IsLocal program h before v
  local =
      step_is_local program h before v (subst (λ (n : ℕ). 0 < n) (sym size) some)
      (ap (granule_at before) (sym at_size) ∙ there)

  taken_alone : IsTaken program (length ram) h v site (hart_step program h before).hart (hart_step program h before).memory
  taken_alone = record {
    size = ap length local.memory ∙ (length-set before (touched program (length before) h)
        (local_value program (length before) h v) ∙ size);
    hart = local.hart ∙ ap (λ (n : ℕ). (local_step program n h v).hart) size;
    value = ap (granule_at (hart_step program h before).memory) at_size
        ∙ (local.granule ∙ ap (λ (n : ℕ). local_value program n h v) size);
  }

  pub taken : (after : Stepped) → hart_step program h (store_capability ram addr v) ≡ after →
      IsTaken program (length ram) h v site after.hart after.memory
  taken after is =
      subst (λ (t : Stepped). IsTaken program (length ram) h v site t.hart t.memory)
      (ap (hart_step program h) (sym stored) ∙ is) taken_alone

-- the same by the number of granules
pub step_taken : (program : List Instr) (granules : ℕ) (ram : List CapValue) (h : HartState) (v : CapValue) (site addr : ℕ) →
    0 < granules → length ram ≡ granules → site ≡ touched program granules h → addr ≡ 2147483648 + 16 * site →
    (after : Stepped) → hart_step program h (store_capability ram addr v) ≡ after →
    IsTaken program granules h v site after.hart after.memory
step_taken program granules ram h v site addr some size at place after is =
    subst (λ (n : ℕ). IsTaken program n h v site after.hart after.memory) size
    (taken program ram h v site addr (subst (λ (n : ℕ). 0 < n) (sym size) some)
    (at ∙ ap (λ (n : ℕ). touched program n h) (sym size)) place after is)

-- the site of a hart that runs, as it was looked up
pub site_known : (program : List Instr) (rests : HartState → HartState) (store : Stored) (sites : List ℕ) (steps : List KnownStep)
    (id : ℕ) (h : HartState) (site : ℕ) → IsTabled program rests store sites steps → 0 < store.granules →
    hart_at store id ≡ Some h → is_running h.status ≡ true → site ≡ slice_index_or sites id site →
    (site ≡ touched program store.granules h) × (site < store.granules)
site_known program rests store sites steps id h site tabled some there runs is =
    let at = is ∙ ((site_there program rests store sites steps id h tabled there).1 site
    ∙ ap (λ (b : Bool). if b then touched program store.granules h else stopped) runs) in
    (at, subst (λ (n : ℕ). n < store.granules) (sym at) (touched_within program store.granules h some))

-- a step that was taken with what was looked up
pub taken_by : (program code : List Instr) (rests : HartState → HartState) (store : Stored) (sites : List ℕ) (steps : List KnownStep)
    (ram filled : List CapValue) (id : ℕ) (h : HartState) (v : CapValue) (site addr : ℕ) (after : Stepped) →
    IsTabled program rests store sites steps → 0 < store.granules → length ram ≡ store.granules →
    hart_at store id ≡ Some h → is_running h.status ≡ true → site ≡ slice_index_or sites id site →
    addr ≡ 2147483648 + 16 * site → code ≡ program → filled ≡ store_capability ram addr v →
    hart_step code h filled ≡ after → IsTaken program store.granules h v site after.hart after.memory
taken_by program code rests store sites steps ram filled id h v site addr after tabled some size known runs is place same put result =
    let site_is = site_known program rests store sites steps id h site tabled some known runs is in
    step_taken program store.granules ram h v site addr some size site_is.0 place after
    (ap (λ (p : List Instr). hart_step p h (store_capability ram addr v)) (sym same)
    ∙ (ap (hart_step code h) (sym put) ∙ result))

-- a step whose hart and value got numbers
pub step_numbered : (g a b c : GraphParts) → a ≡ g → Continues a b → Continues b c → (id number : ℕ) → Runs g.store id →
    number < length g.store.values → (stepped : HartState) (result : CapValue) →
    ((h : HartState) (v : CapValue) → hart_at g.store id ≡ Some h → slice_get g.store.values number ≡ Some v →
    stepped ≡ (local_step g.image.program g.store.granules h v).hart) →
    ((h : HartState) (v : CapValue) → hart_at g.store id ≡ Some h → slice_get g.store.values number ≡ Some v →
    result ≡ local_value g.image.program g.store.granules h v) →
    (hart_after value_after : ℕ) → hart_at b.store hart_after ≡ Some (rests_in a stepped) →
    slice_get c.store.values value_after ≡ Some result →
    IsLocalStep g.image.program (rests_in g) c.store id number (record { hart = hart_after; value = value_after })
step_numbered g a b c same first second id number runs below stepped result steps leaves hart_after value_after numbered valued =
    let h = runs.0 in
    let v = slice_index_or g.store.values number (raw 0) in
    let there : slice_get g.store.values number ≡ Some v = slice_get-get_or g.store.values number (raw 0) below in
    let keeps : Keeps g.store c.store =
    subst (λ (p : GraphParts). Keeps p.store c.store) same (keeps_on a.store b.store c.store first.keeps second.keeps) in
    let granules : g.store.granules ≡ c.store.granules = sym keeps.granules in
    record {
      before = h;
      granule = v;
      hart_is = hart_at_kept g.store c.store keeps id h runs.1;
      value_is = keeps.values number v there;
      hart_after = hart_at_kept b.store c.store second.keeps hart_after (rests_in a stepped) numbered
          ∙ ap (λ (k : HartState). Some k) (ap (λ (p : GraphParts). rests_in p stepped) same ∙ ap (rests_in g) (steps h v runs.1 there
          ∙ ap (λ (n : ℕ). (local_step g.image.program n h v).hart) granules));
      value_after = valued ∙ ap (λ (w : CapValue). Some w) (leaves h v runs.1 there
          ∙ ap (λ (n : ℕ). local_value g.image.program n h v) granules);
    }
