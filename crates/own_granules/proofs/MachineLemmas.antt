-- The machine's steps that respect owners, as steps of actors.
use Rattle.std.proofs.Common.{◌≡◌, ◌≢◌, ℕ, ◌+◌, ◌<◌, List, length, set, arith, ap, sym, ◌∙◌, refl, inl, inr, subst, nat_lt, length-set}
use Rattle.std.specs.Prelude.{Option, Bool, true, false, not, ◌&&◌, ◌||◌, ◌==◌}
use Rattle.std.proofs.lemmas.Bool.{cases_Bool, and_parts, and_from, eqb-true, eq-eqb}
use Rattle.std.proofs.lemmas.Bool.Decides.{nat_tests}
use Rattle.std.proofs.lemmas.List.{set_comm, get_or-set_other}
use Rattle.cap_model.specs.values.CapValue.{CapValue}
use Rattle.cheri_model.specs.declared.operation.Op.TheVariants as operation
use Rattle.cheri_model.specs.runs.Image.{ImageParts}
use Rattle.cheri_model.specs.runs.Machine.{MachineState, hart_at, no_hart, is_running, may_take, state_after_step, stepped}
use Rattle.cheri_model.specs.steps.Hart.{HartState}
use Rattle.cheri_model.specs.steps.Memory.{granule_at}
use Rattle.explore_turns.proofs.QuietLemmas.{own_step_alone}
use Rattle.explore_turns.proofs.TurnLemmas.{same_state}
use Rattle.explore_turns.specs.QuietSteps.{asks_memory, is_whole}
use Rattle.own_granules.specs.Rests.{together}
use Rattle.own_granules.specs.Granules.{are_kept, granules_of, granule_of, is_kept, is_private, is_quiet, is_unseen, leaves_kept, respects, respects_in}
use Rattle.own_granules.specs.Turns.{is_state_of}
use Rattle.own_granules.proofs.ApartLemmas.{AreApart}
use Rattle.own_granules.proofs.OwnerLemmas.{any_order, granule_stays}
use Rattle.own_granules.proofs.KeptLemmas.{kept_set}
use Rattle.own_granules.proofs.StepLemmas.{hart_of, memory_of, same_size, same_value, here}
use Rattle.schedules.specs.declared.ranges.SweepRange.{SweepRange}
use Rattle.states.specs.Locals.{local_value}

-- a state of the image's machine
pub record Fits (image : ImageParts) (sweeps : List SweepRange) (shared : ℕ → Bool) (s : MachineState) : Type 0 where
  pub harts : length s.harts ≡ length image.harts
  pub memory : length s.memory ≡ granules_of image
  pub some : 0 < granules_of image
  pub kept : are_kept sweeps shared 0 s.memory ≡ true

pub fits_is : (image : ImageParts) (sweeps : List SweepRange) (shared : ℕ → Bool) (s : MachineState) →
    is_state_of image sweeps shared s ≡ true → Fits image sweeps shared s
unfolding is_state_of
fits_is image sweeps shared s fit =
    let kept = are_kept sweeps shared 0 s.memory in
    let a = and_parts (length s.harts == length image.harts)
    ((length s.memory == granules_of image) && (nat_lt 0 (granules_of image) && kept)) fit in
    let b = and_parts (length s.memory == granules_of image) (nat_lt 0 (granules_of image) && kept) a.1 in
    let c = and_parts (nat_lt 0 (granules_of image)) kept b.1 in
    let positive = c.0 in
    record {
      harts = eqb-true (length s.harts) (length image.harts) a.0;
      memory = eqb-true (length s.memory) (granules_of image) b.0;
      some = grind (arith, nat_tests);
      kept = c.1;
    }

pub is_fit : (image : ImageParts) (sweeps : List SweepRange) (shared : ℕ → Bool) (s : MachineState) →
    Fits image sweeps shared s → is_state_of image sweeps shared s ≡ true
unfolding is_state_of
is_fit image sweeps shared s fit =
    let positive = fit.some in
    let kept = are_kept sweeps shared 0 s.memory in
    and_from (length s.harts == length image.harts)
    ((length s.memory == granules_of image) && (nat_lt 0 (granules_of image) && kept))
    (eq-eqb (length s.harts) (length image.harts) fit.harts)
    (and_from (length s.memory == granules_of image) (nat_lt 0 (granules_of image) && kept)
    (eq-eqb (length s.memory) (granules_of image) fit.memory)
    (and_from (nat_lt 0 (granules_of image)) kept (grind (arith, nat_tests)) fit.kept))

-- tests of which the third need only agree where the second and the last hold
and_false : (b : Bool) → (b && false) ≡ false
and_false true = refl
and_false false = refl

same_third : (a b c d p : Bool) → (b ≡ true → p ≡ true → d ≡ c) → ((a && (b && d)) && p) ≡ ((a && (b && c)) && p)
same_third a false c d p same = refl
same_third a true c d false same = and_false (a && d) ∙ sym (and_false (a && c))
same_third a true c d true same = ap (λ (x : Bool). (a && x) && true) (same refl refl)

pub same_test : (a a' b b' c d p p' : Bool) → a' ≡ a → b' ≡ b → p' ≡ p → (b ≡ true → p ≡ true → d ≡ c) →
    ((a' && (b' && d)) && p') ≡ ((a && (b && c)) && p)
same_test a a' b b' c d p p' one two three same =
    ap (λ (x : Bool). (x && (b' && d)) && p') one
    ∙ (ap (λ (x : Bool). (a && (x && d)) && p') two
    ∙ (ap (λ (x : Bool). (a && (b && d)) && x) three ∙ same_third a b c d p same))

same_last : (a a' c d : Bool) → a' ≡ a → (a ≡ true → d ≡ c) → (a' && d) ≡ (a && c)
same_last a a' c d one same = ap (λ (x : Bool). x && d) one ∙ last a same
  where
    last : (b : Bool) → (b ≡ true → d ≡ c) → (b && d) ≡ (b && c)
    last true same = same refl
    last false same = refl

module _ (image : ImageParts) (sweeps : List SweepRange) (shared : ℕ → Bool) (owner : ℕ → Option ℕ)
    (hides : HartState → HartState → Bool) where
  abbrev step : MachineState → ℕ → MachineState
  step s l = state_after_step image s l

  abbrev runs : MachineState → ℕ → Bool
  runs s l = may_take s (operation.Step l)

  abbrev passes : MachineState → ℕ → Bool
  passes s l = respects_in image sweeps shared owner s l

  -- it respects owners, whatever it leaves
  abbrev fair : MachineState → ℕ → Bool
  fair s l = respects image shared owner l (hart_at s l)

  abbrev plain : MachineState → ℕ → Bool
  plain s l = is_quiet image sweeps shared hides s l

  abbrev quiet : MachineState → ℕ → Bool
  quiet s l = together plain passes s l

  abbrev ok : MachineState → ℕ → Bool
  ok s l = together runs passes s l

  ok_fair : (s : MachineState) (l : ℕ) → ok s l ≡ true → fair s l ≡ true
  ok_fair s l may =
      (and_parts (fair s l) (leaves_kept image sweeps shared (hart_at s l) s.memory)
      (and_parts (runs s l) (passes s l) may).1).0

  -- another hart's step leaves a hart
  pub hart_kept : (s : MachineState) (l m : ℕ) → l ≢ m → hart_at (step s m) l ≡ hart_at s l
  unfolding hart_at state_after_step
  hart_kept s l m other = get_or-set_other s.harts m l (stepped image s m).hart no_hart other

  pub runs_kept : (s : MachineState) (l m : ℕ) → l ≢ m → runs (step s m) l ≡ runs s l
  unfolding may_take state_after_step
  runs_kept s l m other =
      ap (λ (h : HartState). nat_lt l (length (step s m).harts) && is_running h.status) (hart_kept s l m other)
      ∙ ap (λ (n : ℕ). nat_lt l n && is_running (hart_at s l).status) (length-set s.harts m (stepped image s m).hart)

  pub fair_kept : (s : MachineState) (l m : ℕ) → l ≢ m → fair (step s m) l ≡ fair s l
  fair_kept s l m other = ap (respects image shared owner l) (hart_kept s l m other)

  -- a step that respects owners leaves what another such step reads, so this leaves the same
  leaves_same : (s : MachineState) (l m : ℕ) → is_state_of image sweeps shared s ≡ true → l ≢ m →
      fair s l ≡ true → fair s m ≡ true →
      leaves_kept image sweeps shared (hart_at s l) (step s m).memory
      ≡ leaves_kept image sweeps shared (hart_at s l) s.memory
  unfolding leaves_kept state_after_step
  leaves_same s l m fit other one two =
      let is = fits_is image sweeps shared s fit in
      let program = image.program in
      let n = granules_of image in
      let h = hart_at s l in
      let g = hart_at s m in
      elim (cases_Bool (asks_memory program h)) [
        | inr none ↦ rw none refl
        | inl asks ↦ elim (cases_Bool (shared (granule_of image h))) [
          | inl others ↦ rw others refl
          | inr own ↦
              let same = granule_stays image shared owner l m h g is.some other asks own one two s.memory is.memory in
              let size = same_size program n is.some g s.memory is.memory in
              let value = same_value program n is.some h (step s m).memory s.memory size is.memory same in
              ap (λ (v : CapValue). not (asks_memory program h)
              || (shared (granule_of image h) || is_kept sweeps v)) value
        ]
      ]

  pub passes_kept : (s : MachineState) (l m : ℕ) → is_state_of image sweeps shared s ≡ true → l ≢ m → ok s m ≡ true →
      passes (step s m) l ≡ passes s l
  passes_kept s l m fit other may =
      let h = hart_at s l in
      let two = ok_fair s m may in
      same_last (fair s l) (fair (step s m) l) (leaves_kept image sweeps shared h s.memory)
      (leaves_kept image sweeps shared (hart_at (step s m) l) (step s m).memory) (fair_kept s l m other)
      (λ one.
      ap (λ (x : HartState). leaves_kept image sweeps shared x (step s m).memory) (hart_kept s l m other)
      ∙ leaves_same s l m fit other one two)

  ok_kept : (s : MachineState) (l m : ℕ) → is_state_of image sweeps shared s ≡ true → l ≢ m → ok s m ≡ true →
      ok (step s m) l ≡ ok s l
  ok_kept s l m fit other may =
      ap (λ (b : Bool). b && passes (step s m) l) (runs_kept s l m other)
      ∙ ap (λ (b : Bool). runs s l && b) (passes_kept s l m fit other may)

  -- what is so of a hart whose next step is quiet and passes
  pub record IsOwnQuiet (s : MachineState) (l : ℕ) : Type 0 where
    pub runs : runs s l ≡ true
    pub free : is_private image shared (hart_at s l) ≡ true
    pub whole : is_whole sweeps (hart_at s l) ≡ true
    pub whole_after : is_whole sweeps (stepped image s l).hart ≡ true
    pub passes : passes s l ≡ true
    pub fair : fair s l ≡ true
    pub leaves : leaves_kept image sweeps shared (hart_at s l) s.memory ≡ true

  pub quiet_is : (s : MachineState) (l : ℕ) → quiet s l ≡ true → IsOwnQuiet s l
  unfolding is_quiet
  quiet_is s l holds =
      let h = hart_at s l in
      let after = (stepped image s l).hart in
      let a = and_parts (plain s l) (passes s l) holds in
      let b = and_parts (runs s l) (is_private image shared h && is_unseen sweeps hides h after) a.0 in
      let c = and_parts (is_private image shared h) (is_unseen sweeps hides h after) b.1 in
      let d = and_parts (is_whole sweeps h) (is_whole sweeps after && hides h after) c.1 in
      let e = and_parts (is_whole sweeps after) (hides h after) d.1 in
      let f = and_parts (fair s l) (leaves_kept image sweeps shared h s.memory) a.1 in
      record {
        runs = b.0;
        free = c.0;
        whole = d.0;
        whole_after = e.0;
        passes = a.1;
        fair = f.0;
        leaves = f.1;
      }

  -- what a step leaves in a granule that isn't shared is nothing for sweeps
  memory_keeps : (s : MachineState) (l : ℕ) → is_state_of image sweeps shared s ≡ true →
      leaves_kept image sweeps shared (hart_at s l) s.memory ≡ true →
      are_kept sweeps shared 0 (step s l).memory ≡ true
  unfolding leaves_kept state_after_step
  memory_keeps s l fit leaves =
      let is = fits_is image sweeps shared s fit in
      let program = image.program in
      let n = granules_of image in
      let h = hart_at s l in
      let k = granule_of image h in
      elim (cases_Bool (asks_memory program h)) [
        | inr none ↦
            subst (λ (x : List CapValue). are_kept sweeps shared 0 x ≡ true)
            (sym (own_step_alone program h s.memory none).1) is.kept
        | inl asks ↦
            let same : 0 + k ≡ k = omega arith in
            let at = here program n is.some h s.memory is.memory in
            let left : shared k || is_kept sweeps (granule_at (stepped image s l).memory k) ≡ true =
            rw asks at leaves in
            let value : shared k || is_kept sweeps (local_value program n h (granule_at s.memory k)) ≡ true =
            sym (ap (λ (v : CapValue). shared k || is_kept sweeps v) at.granule) ∙ left in
            subst (λ (x : List CapValue). are_kept sweeps shared 0 x ≡ true) (sym at.memory)
            (kept_set sweeps shared 0 k s.memory (local_value program n h (granule_at s.memory k)) is.kept
            (subst (λ (i : ℕ). shared i || is_kept sweeps (local_value program n h (granule_at s.memory k)) ≡ true)
            (sym same) value))
      ]

  step_keeps : (s : MachineState) (l : ℕ) → is_state_of image sweeps shared s ≡ true → passes s l ≡ true →
      is_state_of image sweeps shared (step s l) ≡ true
  unfolding state_after_step
  step_keeps s l fit pass =
      let is = fits_is image sweeps shared s fit in
      is_fit image sweeps shared (step s l) (record {
        harts = length-set s.harts l (stepped image s l).hart ∙ is.harts;
        memory = same_size image.program (granules_of image) is.some (hart_at s l) s.memory is.memory;
        some = is.some;
        kept = memory_keeps s l fit
            (and_parts (fair s l) (leaves_kept image sweeps shared (hart_at s l) s.memory) pass).1;
      })

  -- a hart that may be quiet does the same after another's step
  same_stepped : (s : MachineState) (l m : ℕ) → is_state_of image sweeps shared s ≡ true → l ≢ m → fair s m ≡ true →
      is_private image shared (hart_at s l) ≡ true → fair s l ≡ true →
      (stepped image (step s m) l).hart ≡ (stepped image s l).hart
  unfolding state_after_step
  same_stepped s l m fit other two free one =
      let is = fits_is image sweeps shared s fit in
      let both = any_order image shared owner l m (hart_at s l) (hart_at s m) is.some other free one two in
      ap (λ (h : HartState). hart_of image.program (granules_of image) is.some h (step s m).memory)
      (hart_kept s l m other)
      ∙ both.first s.memory is.memory

  same_quiet : (s : MachineState) (l m : ℕ) → is_state_of image sweeps shared s ≡ true → l ≢ m → ok s m ≡ true →
      quiet (step s m) l ≡ quiet s l
  unfolding is_quiet
  same_quiet s l m fit other may =
      let h = hart_at s l in
      let kept = hart_kept s l m other in
      same_test (runs s l) (runs (step s m) l)
      (is_private image shared h) (is_private image shared (hart_at (step s m) l))
      (is_unseen sweeps hides h (stepped image s l).hart)
      (is_unseen sweeps hides (hart_at (step s m) l) (stepped image (step s m) l).hart)
      (passes s l) (passes (step s m) l)
      (runs_kept s l m other) (ap (is_private image shared) kept) (passes_kept s l m fit other may)
      (λ private pass.
      let one = (and_parts (fair s l) (leaves_kept image sweeps shared h s.memory) pass).0 in
      ap (λ (x : HartState). is_unseen sweeps hides x (stepped image (step s m) l).hart) kept
      ∙ ap (is_unseen sweeps hides h) (same_stepped s l m fit other (ok_fair s m may) private one))

  pub commutes : (s : MachineState) (l m : ℕ) → is_state_of image sweeps shared s ≡ true → l ≢ m →
      is_private image shared (hart_at s l) ≡ true → fair s l ≡ true → fair s m ≡ true →
      step (step s m) l ≡ step (step s l) m
  unfolding state_after_step
  commutes s l m fit other free mine theirs =
      let is = fits_is image sweeps shared s fit in
      let h = hart_at s l in
      let g = hart_at s m in
      let after : HartState → List CapValue → HartState = hart_of image.program (granules_of image) is.some in
      let left : HartState → List CapValue → List CapValue = memory_of image.program (granules_of image) is.some in
      let back : m ≢ l = λ same. other (sym same) in
      let both = any_order image shared owner l m h g is.some other free mine theirs in
      let one : after (hart_at (step s m) l) (step s m).memory ≡ (stepped image s l).hart =
      same_stepped s l m fit other theirs free mine in
      let two : after (hart_at (step s l) m) (step s l).memory ≡ (stepped image s m).hart =
      ap (λ (x : HartState). after x (step s l).memory) (hart_kept s m l back)
      ∙ both.second s.memory is.memory in
      same_state (step (step s m) l).harts (step (step s l) m).harts
      (step (step s m) l).memory (step (step s l) m).memory
      (ap (λ (x : HartState). set (step s m).harts l x) one
      ∙ (set_comm s.harts m l (stepped image s m).hart (stepped image s l).hart back
      ∙ sym (ap (λ (x : HartState). set (step s l).harts m x) two)))
      (ap (λ (x : HartState). left x (step s m).memory) (hart_kept s l m other)
      ∙ (both.memory s.memory is.memory
      ∙ sym (ap (λ (x : HartState). left x (step s l).memory) (hart_kept s m l back))))

  pub apart : AreApart step quiet ok (is_state_of image sweeps shared)
  apart = record {
    quiet_may = λ s l holds. let own = quiet_is s l holds in and_from (runs s l) (passes s l) own.runs own.passes;
    keeps = λ s l fit may. step_keeps s l fit (and_parts (runs s l) (passes s l) may).1;
    same_may = ok_kept;
    same_quiet = same_quiet;
    commutes = λ s l m fit other may holds.
        let own = quiet_is s l holds in commutes s l m fit other own.free own.fair (ok_fair s m may);
  }
