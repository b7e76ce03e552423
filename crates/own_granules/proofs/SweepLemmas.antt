-- Sweeps of a machine beside the quiet steps of its harts.
use Rattle.std.proofs.Common.{◌≡◌, ℕ, ◌+◌, ◌<◌, List, length, map, set, arith, ap, sym, ◌∙◌, refl, inl, inr, nat_lt}
use Rattle.std.specs.Prelude.{Option, Some, Bool, true, false, not, ◌&&◌, ◌||◌, slice_get}
use Rattle.std.proofs.lemmas.Bool.{cases_Bool, and_parts}
use Rattle.std.proofs.lemmas.Bool.Decides.{nat_tests}
use Rattle.std.proofs.lemmas.List.{length-map, map-set, get_or-map, get_or-set_same}
use Rattle.cap_model.specs.results.Swept.{swept}
use Rattle.cap_model.specs.values.CapValue.{CapValue}
use Rattle.cheri_model.specs.declared.operation.Op.TheVariants as operation
use Rattle.cheri_model.specs.runs.Image.{ImageParts}
use Rattle.cheri_model.specs.runs.Machine.{MachineState, hart_at, no_hart, is_running, may_take, state_after_step, stepped, swept_state}
use Rattle.cheri_model.specs.runs.Sweeps.{swept_hart, swept_memory}
use Rattle.cheri_model.specs.steps.Hart.{HartState}
use Rattle.cheri_model.specs.steps.HartStep.{hart_step}
use Rattle.cheri_model.specs.steps.Memory.{granule_at}
use Rattle.explore_turns.proofs.QuietLemmas.{own_step_alone}
use Rattle.explore_turns.proofs.RestLemmas.{whole_range}
use Rattle.explore_turns.proofs.TurnLemmas.{same_state}
use Rattle.explore_turns.specs.QuietSteps.{asks_memory, is_whole}
use Rattle.own_granules.specs.Granules.{granule_of, granules_of, is_kept, is_private, is_quiet, is_unseen, leaves_kept, respects, respects_in}
use Rattle.own_granules.specs.Rests.{together}
use Rattle.own_granules.specs.Turns.{is_state_of}
use Rattle.own_granules.proofs.KeptLemmas.{kept_swept, granule_kept, kept_stays}
use Rattle.own_granules.proofs.MachineLemmas.{fits_is, is_fit, hart_kept, same_test, quiet_is}
use Rattle.own_granules.proofs.OwnerLemmas.{private_granule}
use Rattle.own_granules.proofs.StepLemmas.{hart_of, memory_of, same_hart, same_value, here}
use Rattle.own_granules.proofs.SweptLemmas.{AreWhole, IsSwept}
use Rattle.schedules.specs.declared.ranges.SweepRange.{SweepRange}
use Rattle.states.specs.Locals.{local_value}

module _ (image : ImageParts) (sweeps : List SweepRange) (shared : ℕ → Bool) (owner : ℕ → Option ℕ)
    (hides : HartState → HartState → Bool) where
  abbrev n : ℕ
  n = length image.harts

  abbrev step : MachineState → ℕ → MachineState
  step s l = state_after_step image s l

  abbrev runs : MachineState → ℕ → Bool
  runs s l = may_take s (operation.Step l)

  abbrev passes : MachineState → ℕ → Bool
  passes s l = respects_in image sweeps shared owner s l

  abbrev quiet : MachineState → ℕ → Bool
  quiet s l = together (is_quiet image sweeps shared hides) passes s l

  abbrev pub whole : MachineState → ℕ → Bool
  whole s l = is_whole sweeps (hart_at s l)

  abbrev fits : MachineState → Bool
  fits s = is_state_of image sweeps shared s

  -- a hart after its step, in its place
  hart_stepped : (s : MachineState) (l : ℕ) → runs s l ≡ true → hart_at (step s l) l ≡ (stepped image s l).hart
  unfolding may_take hart_at state_after_step
  hart_stepped s l may =
      let here = (and_parts (nat_lt l (length s.harts)) (is_running (hart_at s l).status) may).0 in
      let low : l < length s.harts = grind (arith, nat_tests) in
      get_or-set_same s.harts l (stepped image s l).hart no_hart low

  pub are_whole : AreWhole step quiet (together runs passes) whole
  are_whole = record {
    quiet_whole = λ s l holds. (quiet_is image sweeps shared owner hides s l holds).whole;
    whole_after = λ s l holds.
        let own = quiet_is image sweeps shared owner hides s l holds in
        ap (is_whole sweeps) (hart_stepped s l own.runs) ∙ own.whole_after;
    same_whole = λ s l m other. ap (is_whole sweeps) (hart_kept image sweeps shared owner hides s l m other);
  }

  module _ (i : ℕ) (range : SweepRange) (there : slice_get sweeps i ≡ Some range) where
    abbrev pub sweep : MachineState → MachineState
    sweep s = swept_state range.lo range.hi s

    abbrev clear : List CapValue → List CapValue
    clear m = map (swept range.lo range.hi) m

    memory_swept : (s : MachineState) → (sweep s).memory ≡ clear s.memory
    unfolding swept_state swept_memory
    memory_swept s = refl

    hart_swept : (s : MachineState) (l : ℕ) → l < length s.harts → whole s l ≡ true → hart_at (sweep s) l ≡ hart_at s l
    unfolding hart_at swept_state
    hart_swept s l low holds =
        get_or-map (swept_hart range.lo range.hi) s.harts l no_hart no_hart low
        ∙ whole_range sweeps i range (hart_at s l) there holds

    runs_swept : (s : MachineState) (l : ℕ) → l < length s.harts → whole s l ≡ true → runs (sweep s) l ≡ runs s l
    unfolding may_take swept_state
    runs_swept s l low holds =
        ap (λ (h : HartState). nat_lt l (length (sweep s).harts) && is_running h.status) (hart_swept s l low holds)
        ∙ ap (λ (k : ℕ). nat_lt l k && is_running (hart_at s l).status)
        (length-map s.harts (swept_hart range.lo range.hi))

    keeps : (s : MachineState) → fits s ≡ true → fits (sweep s) ≡ true
    unfolding swept_state swept_memory
    keeps s fit =
        let is = fits_is image sweeps shared s fit in
        is_fit image sweeps shared (sweep s) (record {
          harts = length-map s.harts (swept_hart range.lo range.hi) ∙ is.harts;
          memory = length-map s.memory (swept range.lo range.hi) ∙ is.memory;
          some = is.some;
          kept = kept_swept sweeps shared i range there 0 s.memory is.kept;
        })

    -- the granule that a hart touches, where it isn't shared
    granule_same : (s : MachineState) (h : HartState) → fits s ≡ true → shared (granule_of image h) ≡ false →
        granule_at (clear s.memory) (granule_of image h) ≡ granule_at s.memory (granule_of image h)
    granule_same s h fit own =
        let is = fits_is image sweeps shared s fit in
        let same : 0 + granule_of image h ≡ granule_of image h = omega arith in
        granule_kept sweeps shared i range there 0 (granule_of image h) s.memory is.kept (ap shared same ∙ own)

    clear_size : (s : MachineState) → fits s ≡ true → length (clear s.memory) ≡ granules_of image
    clear_size s fit = length-map s.memory (swept range.lo range.hi) ∙ (fits_is image sweeps shared s fit).memory

    -- a private step does the same after the sweep
    stepped_same : (s : MachineState) (h : HartState) (fit : fits s ≡ true) → is_private image shared h ≡ true →
        hart_of image.program (granules_of image) (fits_is image sweeps shared s fit).some h (clear s.memory)
        ≡ hart_of image.program (granules_of image) (fits_is image sweeps shared s fit).some h s.memory
    stepped_same s h fit free = elim (cases_Bool (asks_memory image.program h)) [
      | inr none ↦
          (own_step_alone image.program h (clear s.memory) none).0
          ∙ sym (own_step_alone image.program h s.memory none).0
      | inl asks ↦
          let is = fits_is image sweeps shared s fit in
          let own = private_granule image shared owner h asks free in
          same_hart image.program (granules_of image) is.some h (clear s.memory) s.memory (clear_size s fit) is.memory
          (granule_same s h fit own)
    ]

    leaves_swept : (s : MachineState) (h : HartState) → fits s ≡ true →
        leaves_kept image sweeps shared h (clear s.memory) ≡ leaves_kept image sweeps shared h s.memory
    unfolding leaves_kept
    leaves_swept s h fit = elim (cases_Bool (asks_memory image.program h)) [
      | inr none ↦ rw none refl
      | inl asks ↦ elim (cases_Bool (shared (granule_of image h))) [
        | inl others ↦ rw others refl
        | inr own ↦
            let is = fits_is image sweeps shared s fit in
            let value = same_value image.program (granules_of image) is.some h (clear s.memory) s.memory
            (clear_size s fit) is.memory (granule_same s h fit own) in
            ap (λ (v : CapValue). not (asks_memory image.program h)
            || (shared (granule_of image h) || is_kept sweeps v)) value
      ]
    ]

    low_hart : (s : MachineState) (l : ℕ) → fits s ≡ true → l < n → l < length s.harts
    low_hart s l fit low = let size = (fits_is image sweeps shared s fit).harts in omega (arith, low, size)

    still_quiet : (s : MachineState) (l : ℕ) → fits s ≡ true → l < n → whole s l ≡ true →
        quiet (sweep s) l ≡ quiet s l
    unfolding is_quiet
    still_quiet s l fit low holds =
        let h = hart_at s l in
        let below = low_hart s l fit low in
        let same = hart_swept s l below holds in
        let is = fits_is image sweeps shared s fit in
        let program = image.program in
        let size = granules_of image in
        let some = is.some in
        let passing : HartState → List CapValue → Bool =
        λ x m. respects image shared owner l x && leaves_kept image sweeps shared x m in
        let pass : passes (sweep s) l ≡ passes s l =
        ap (λ (x : HartState). passing x (sweep s).memory) same
        ∙ (ap (passing h) (memory_swept s)
        ∙ ap (λ (b : Bool). respects image shared owner l h && b) (leaves_swept s h fit)) in
        same_test (runs s l) (runs (sweep s) l)
        (is_private image shared h) (is_private image shared (hart_at (sweep s) l))
        (is_unseen sweeps hides h (stepped image s l).hart)
        (is_unseen sweeps hides (hart_at (sweep s) l) (stepped image (sweep s) l).hart)
        (passes s l) (passes (sweep s) l)
        (runs_swept s l below holds) (ap (is_private image shared) same) pass
        (λ private passed.
        let after : (stepped image (sweep s) l).hart ≡ (stepped image s l).hart =
        ap (λ (x : HartState). hart_of program size some x (sweep s).memory) same
        ∙ (ap (hart_of program size some h) (memory_swept s) ∙ stepped_same s h fit private) in
        ap (λ (x : HartState). is_unseen sweeps hides x (stepped image (sweep s) l).hart) same
        ∙ ap (is_unseen sweeps hides h) after)

    -- what a quiet step leaves in memory, before the sweep or after it
    memory_same : (s : MachineState) (l : ℕ) → fits s ≡ true → quiet s l ≡ true →
        clear (hart_step image.program (hart_at s l) s.memory).memory
        ≡ (hart_step image.program (hart_at s l) (clear s.memory)).memory
    unfolding leaves_kept
    memory_same s l fit moves =
        let is = fits_is image sweeps shared s fit in
        let own = quiet_is image sweeps shared owner hides s l moves in
        let program = image.program in
        let size = granules_of image in
        let h = hart_at s l in
        let k = granule_of image h in
        elim (cases_Bool (asks_memory program h)) [
          | inr none ↦
              ap clear (own_step_alone program h s.memory none).1
              ∙ sym (own_step_alone program h (clear s.memory) none).1
          | inl asks ↦
              let alone = private_granule image shared owner h asks own.free in
              let at = here program size is.some h s.memory is.memory in
              let to = here program size is.some h (clear s.memory) (clear_size s fit) in
              let value = local_value program size h (granule_at s.memory k) in
              let left : is_kept sweeps (granule_at (memory_of program size is.some h s.memory) k) ≡ true =
              rw (asks, alone) at own.leaves in
              let kept : is_kept sweeps value ≡ true = sym (ap (is_kept sweeps) at.granule) ∙ left in
              ap clear at.memory
              ∙ (map-set (swept range.lo range.hi) s.memory k value
              ∙ (ap (set (clear s.memory) k) (kept_stays sweeps shared i range there value kept)
              ∙ (ap (λ (v : CapValue). set (clear s.memory) k (local_value program size h v))
              (sym (granule_same s h fit alone))
              ∙ sym to.memory)))
        ]

    steps_too : (s : MachineState) (l : ℕ) → fits s ≡ true → l < n → quiet s l ≡ true →
        sweep (step s l) ≡ step (sweep s) l
    unfolding state_after_step swept_state swept_memory
    steps_too s l fit low moves =
        let own = quiet_is image sweeps shared owner hides s l moves in
        let is = fits_is image sweeps shared s fit in
        let h = hart_at s l in
        let after = (stepped image s l).hart in
        let same = hart_swept s l (low_hart s l fit low) own.whole in
        let there_hart : (hart_step image.program (hart_at (sweep s) l) (clear s.memory)).hart ≡ after =
        ap (λ (x : HartState). hart_of image.program (granules_of image) is.some x (clear s.memory)) same
        ∙ stepped_same s h fit own.free in
        same_state (sweep (step s l)).harts (step (sweep s) l).harts (sweep (step s l)).memory (step (sweep s) l).memory
        (map-set (swept_hart range.lo range.hi) s.harts l after
        ∙ ap (set (map (swept_hart range.lo range.hi) s.harts) l)
        (whole_range sweeps i range after there own.whole_after ∙ sym there_hart))
        (memory_same s l fit moves
        ∙ sym (ap (λ (x : HartState). memory_of image.program (granules_of image) is.some x (clear s.memory)) same))

    pub is_swept : IsSwept step quiet whole fits n sweep
    is_swept = record {
      keeps = keeps;
      still_quiet = still_quiet;
      still_whole = λ s l fit low holds.
          ap (is_whole sweeps) (hart_swept s l (low_hart s l fit low) holds) ∙ holds;
      steps_too = steps_too;
    }
