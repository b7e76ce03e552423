-- What harts forget makes no difference to an operation.
use Rattle.std.proofs.Common.{◌≡◌, ℕ, length, List, [], ◌∷◌, map, set, refl, sym, ap, ◌∙◌, inl, inr}
use Rattle.std.specs.Prelude.{true, ◌&&◌, nat_lt}
use Rattle.std.proofs.lemmas.Bool.{cases_lt, and_parts}
use Rattle.std.proofs.lemmas.List.{length-map, get_or-map, get_or_past, map-set}
use Rattle.cap_model.specs.values.CapValue.{CapValue}
use Rattle.cap_model.specs.results.Addresses.{address_of}
use Rattle.cheri_model.specs.declared.instr.Instr.{Instr}
use Rattle.cheri_model.specs.declared.operation.Op.{Op}
use Rattle.cheri_model.specs.declared.operation.Op.TheVariants as operation
use Rattle.cheri_model.specs.declared.trace.Entry.{Entry}
use Rattle.cheri_model.specs.declared.trace.Outcome.{Outcome}
use Rattle.cheri_model.specs.declared.trace.Status.{Status}
use Rattle.cheri_model.specs.runs.Image.{ImageParts}
use Rattle.cheri_model.specs.runs.Machine.{MachineState, no_hart, hart_at, is_running, may_take, state_after_step, entry_of, swept_state, state_after_one}
use Rattle.cheri_model.specs.runs.Sweeps.{swept_hart, swept_memory}
use Rattle.cheri_model.specs.steps.Hart.{HartState, register}
use Rattle.cheri_model.specs.steps.HartStep.{hart_step}
use Rattle.live_registers.specs.RegisterSets.{has, kept, forgotten}
use Rattle.live_registers.specs.LiveSets.{LiveSets, forgotten_hart, IsRight}
use Rattle.live_registers.proofs.ForgettingLemmas.{forgotten_twice, asked_stays, forgets_hart, forgets_memory, forgets_outcome, sweep_forgets}
use Rattle.forgotten_runs.specs.ForgottenRuns.{forgotten_state, forgotten_after}

module _ (live : LiveSets) where
  abbrev forget : HartState → HartState
  forget h = forgotten_hart live h

  abbrev made : List HartState → List CapValue → MachineState
  made harts memory = record { harts = harts; memory = memory }

  abbrev made_entry : ℕ → ℕ → Outcome → Entry
  made_entry hart pc outcome = record { hart = hart; pc = pc; outcome = outcome }

  -- ---- what a forgotten state keeps

  harts_twice : (hs : List HartState) → map forget (map forget hs) ≡ map forget hs
  harts_twice [] = refl
  harts_twice (h ∷ hs) =
      ap (λ (g : HartState). g ∷ map forget (map forget hs)) (forgotten_twice live h)
      ∙ ap (λ (gs : List HartState). forget h ∷ gs) (harts_twice hs)

  pub state_twice : (s : MachineState) → forgotten_state live (forgotten_state live s) ≡ forgotten_state live s
  unfolding forgotten_state
  state_twice s = ap (λ (hs : List HartState). made hs s.memory) (harts_twice s.harts)

  pub count_kept : (s : MachineState) → length (forgotten_state live s).harts ≡ length s.harts
  unfolding forgotten_state
  count_kept s = length-map s.harts (forgotten_hart live)

  pub memory_kept : (s : MachineState) → (forgotten_state live s).memory ≡ s.memory
  unfolding forgotten_state
  memory_kept s = refl

  no_hart_forgets : forgotten_hart live no_hart ≡ no_hart
  unfolding forgotten_hart forgotten kept
  no_hart_forgets = refl

  pub hart_kept : (s : MachineState) (hart : ℕ) → hart_at (forgotten_state live s) hart ≡ forgotten_hart live (hart_at s hart)
  unfolding hart_at forgotten_state
  hart_kept s hart = elim (cases_lt hart (length s.harts)) [
    | inl inside ↦ get_or-map (forgotten_hart live) s.harts hart no_hart no_hart inside
    | inr outside ↦
        get_or_past (map (forgotten_hart live) s.harts) hart no_hart (rw (length-map s.harts (forgotten_hart live)) outside)
        ∙ sym (ap (forgotten_hart live) (get_or_past s.harts hart no_hart outside) ∙ no_hart_forgets)
  ]

  pub pcc_kept : (s : MachineState) (hart : ℕ) → (hart_at (forgotten_state live s) hart).pcc ≡ (hart_at s hart).pcc
  unfolding forgotten_hart forgotten
  pcc_kept s hart = ap (λ (h : HartState). h.pcc) (hart_kept s hart)

  pub status_kept : (s : MachineState) (hart : ℕ) → (hart_at (forgotten_state live s) hart).status ≡ (hart_at s hart).status
  unfolding forgotten_hart forgotten
  status_kept s hart = ap (λ (h : HartState). h.status) (hart_kept s hart)

  pub register_kept : (program : List Instr) (s : MachineState) (hart reg : ℕ) → IsRight program live → has live.asked reg ≡ true →
      register (hart_at (forgotten_state live s) hart) reg ≡ register (hart_at s hart) reg
  register_kept program s hart reg right held =
      ap (λ (h : HartState). register h reg) (hart_kept s hart) ∙ asked_stays program live (hart_at s hart) reg right held

  -- ---- operations

  pub may_kept : (s : MachineState) (op : Op) → may_take (forgotten_state live s) op ≡ may_take s op
  unfolding may_take
  may_kept s (operation.Step hart) =
      ap (λ (count : ℕ). nat_lt hart count && is_running (hart_at (forgotten_state live s) hart).status) (count_kept s)
      ∙ ap (λ (status : Status). nat_lt hart (length s.harts) && is_running status) (status_kept s hart)
  may_kept s (operation.Sweep lo hi) = refl

  -- harts of which one is another that forgets to be the same
  same_set : (hs : List HartState) (hart : ℕ) (one other : HartState) → forget one ≡ forget other →
      map forget (set (map forget hs) hart one) ≡ map forget (set hs hart other)
  same_set hs hart one other same =
      map-set forget (map forget hs) hart one
      ∙ ap (λ (gs : List HartState). set gs hart (forget one)) (harts_twice hs)
      ∙ ap (λ (h : HartState). set (map forget hs) hart h) same
      ∙ sym (map-set forget hs hart other)

  same_swept : (program : List Instr) (lo hi : ℕ) → IsRight program live → (hs : List HartState) →
      map forget (map (swept_hart lo hi) (map forget hs)) ≡ map forget (map (swept_hart lo hi) hs)
  same_swept program lo hi right [] = refl
  same_swept program lo hi right (h ∷ hs) =
      ap (λ (g : HartState). g ∷ map forget (map (swept_hart lo hi) (map forget hs))) (sweep_forgets program live lo hi h right)
      ∙ ap (λ (gs : List HartState). forget (swept_hart lo hi h) ∷ gs) (same_swept program lo hi right hs)

  runs_there : (s : MachineState) (hart : ℕ) → may_take s (operation.Step hart) ≡ true → is_running (hart_at s hart).status ≡ true
  unfolding may_take
  runs_there s hart may = (and_parts (nat_lt hart (length s.harts)) (is_running (hart_at s hart).status) may).1

  module _ (image : ImageParts) (right : IsRight image.program live) where
    step_memory : (s : MachineState) (hart : ℕ) → is_running (hart_at s hart).status ≡ true →
        (hart_step image.program (hart_at (forgotten_state live s) hart) s.memory).memory
        ≡ (hart_step image.program (hart_at s hart) s.memory).memory
    step_memory s hart running = rw (hart_kept s hart) (forgets_memory image.program live (hart_at s hart) s.memory right running)

    step_hart : (s : MachineState) (hart : ℕ) → is_running (hart_at s hart).status ≡ true →
        forget (hart_step image.program (hart_at (forgotten_state live s) hart) s.memory).hart
        ≡ forget (hart_step image.program (hart_at s hart) s.memory).hart
    step_hart s hart running = rw (hart_kept s hart) (forgets_hart image.program live (hart_at s hart) s.memory right running)

    step_outcome : (s : MachineState) (hart : ℕ) → is_running (hart_at s hart).status ≡ true →
        (hart_step image.program (hart_at (forgotten_state live s) hart) s.memory).outcome
        ≡ (hart_step image.program (hart_at s hart) s.memory).outcome
    step_outcome s hart running = rw (hart_kept s hart) (forgets_outcome image.program live (hart_at s hart) s.memory right running)

    pub memory_after : (s : MachineState) (op : Op) → may_take s op ≡ true →
        (state_after_one image (forgotten_state live s) op).memory ≡ (state_after_one image s op).memory
    unfolding state_after_one state_after_step swept_state forgotten_state
    memory_after s (operation.Step hart) may = step_memory s hart (runs_there s hart may)
    memory_after s (operation.Sweep lo hi) may = refl

    pub entry_kept : (s : MachineState) (hart : ℕ) → may_take s (operation.Step hart) ≡ true →
        entry_of image (forgotten_state live s) hart ≡ entry_of image s hart
    unfolding entry_of forgotten_state
    entry_kept s hart may =
        ap (λ (pcc : CapValue). made_entry hart (address_of pcc)
        (hart_step image.program (hart_at (forgotten_state live s) hart) s.memory).outcome) (pcc_kept s hart)
        ∙ ap (λ (outcome : Outcome). made_entry hart (address_of (hart_at s hart).pcc) outcome) (step_outcome s hart (runs_there s hart may))

    pub after_forgets : (s : MachineState) (op : Op) → may_take s op ≡ true →
        forgotten_after live image (forgotten_state live s) op ≡ forgotten_after live image s op
    unfolding forgotten_after state_after_one state_after_step swept_state forgotten_state
    after_forgets s (operation.Step hart) may =
        let running = runs_there s hart may in
        let plain = hart_step image.program (hart_at s hart) s.memory in
        let other = hart_step image.program (hart_at (forgotten_state live s) hart) s.memory in
        ap (λ (hs : List HartState). made hs other.memory)
        (same_set s.harts hart other.hart plain.hart (step_hart s hart running))
        ∙ ap (λ (m : List CapValue). made (map forget (set s.harts hart plain.hart)) m) (step_memory s hart running)
    after_forgets s (operation.Sweep lo hi) may =
        ap (λ (hs : List HartState). made hs (swept_memory lo hi s.memory)) (same_swept image.program lo hi right s.harts)
