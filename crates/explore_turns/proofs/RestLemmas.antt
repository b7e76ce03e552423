-- The way of a hart to its rest.
use Rattle.std.proofs.Common.{◌≡◌, ℕ, zero, suc, ◌+◌, ◌-◌, ◌<◌, ◌≤◌, List, [], ◌∷◌, map, arith, ap, sym, ◌∙◌, refl, inl, inr, ◌⊎◌, subst, cond}
use Rattle.std.specs.Prelude.{Option, Some, None, Bool, true, false, not, ◌&&◌, ◌==◌, slice_get, unwrap_or}
use Rattle.std.specs.List.{count_by}
use Rattle.std.proofs.lemmas.Bool.{cases_Bool, and_parts, not-true, both_ways, eqb-true}
use Rattle.std.proofs.lemmas.List.Sums.{sum_by-cons}
use Rattle.std.proofs.lemmas.Option.{none-some, same_Some, cond_some}
use Rattle.cap_model.specs.results.Swept.{is_in_sweep, swept}
use Rattle.cap_model.specs.values.CapValue.{CapValue}
use Rattle.cheri_model.specs.declared.instr.Instr.{Instr}
use Rattle.cheri_model.specs.runs.Machine.{is_running}
use Rattle.cheri_model.specs.runs.Sweeps.{cleared_in_hart, swept_hart}
use Rattle.cheri_model.specs.steps.Hart.{HartState}
use Rattle.explore_turns.specs.Orders.{if_it_comes}
use Rattle.explore_turns.specs.QuietSteps.{asks_memory, own_step, is_whole, is_quiet, come, rest, steps_to_rest}
use Rattle.schedules.specs.declared.ranges.SweepRange.{SweepRange}

-- a sweep that clears no tag changes nothing
swept_value : (lo hi : ℕ) (v : CapValue) → is_in_sweep lo hi v ≡ false → swept lo hi v ≡ v
unfolding swept
swept_value lo hi v fails = rw fails

-- the tags that it clears in the first value and in the others
count_first : (lo hi : ℕ) (v : CapValue) (vs : List CapValue) →
    count_by (is_in_sweep lo hi) (v ∷ vs) ≡ cond (is_in_sweep lo hi v) 1 0 + count_by (is_in_sweep lo hi) vs
count_first lo hi v vs = sum_by-cons (λ (x : CapValue). cond (is_in_sweep lo hi x) 1 0) v vs

none_cleared : (lo hi : ℕ) (v : CapValue) (vs : List CapValue) → count_by (is_in_sweep lo hi) (v ∷ vs) ≡ 0 →
    (is_in_sweep lo hi v ≡ false) × (count_by (is_in_sweep lo hi) vs ≡ 0)
none_cleared lo hi v vs none =
    let split = count_first lo hi v vs in
    let rest : count_by (is_in_sweep lo hi) vs ≡ 0 = omega (arith, split, none) in
    let first : ◌≡◌ {A = ℕ} (cond (is_in_sweep lo hi v) 1 0) 0 = omega (arith, split, none) in
    elim (cases_Bool (is_in_sweep lo hi v)) [
      | inl clears ↦
          let one : ◌≡◌ {A = ℕ} (cond (is_in_sweep lo hi v) 1 0) 1 = rw clears in
          absurd (omega (arith, first, one))
      | inr keeps ↦ (keeps, rest)
    ]

swept_values : (lo hi : ℕ) (vs : List CapValue) → count_by (is_in_sweep lo hi) vs ≡ 0 → map (swept lo hi) vs ≡ vs
swept_values lo hi [] none = refl
swept_values lo hi (v ∷ vs) none =
    let parts = none_cleared lo hi v vs none in
    ap (λ (w : CapValue). w ∷ map (swept lo hi) vs) (swept_value lo hi v parts.0)
    ∙ ap (λ (ws : List CapValue). v ∷ ws) (swept_values lo hi vs parts.1)

pub swept_whole : (lo hi : ℕ) (h : HartState) → cleared_in_hart lo hi h ≡ 0 → swept_hart lo hi h ≡ h
unfolding cleared_in_hart swept_hart
swept_whole lo hi h none =
    let parts = none_cleared lo hi h.pcc h.regs none in
    ap (λ (v : CapValue). record h { regs = map (swept lo hi) h.regs; pcc = v }) (swept_value lo hi h.pcc parts.0)
    ∙ ap (λ (vs : List CapValue). record h { regs = vs }) (swept_values lo hi h.regs parts.1)

pub whole_range : (sweeps : List SweepRange) (k : ℕ) (range : SweepRange) (h : HartState) →
    slice_get sweeps k ≡ Some range → is_whole sweeps h ≡ true → swept_hart range.lo range.hi h ≡ h
whole_range [] k range h there whole = absurd (none-some range there)
whole_range (x ∷ sweeps) zero range h there whole =
    let parts = and_parts (cleared_in_hart x.lo x.hi h == 0) (is_whole sweeps h) whole in
    subst (λ (r : SweepRange). swept_hart r.lo r.hi h ≡ h) (same_Some x range there)
    (swept_whole x.lo x.hi h (eqb-true (cleared_in_hart x.lo x.hi h) 0 parts.0))
whole_range (x ∷ sweeps) (suc k) range h there whole =
    let parts = and_parts (cleared_in_hart x.lo x.hi h == 0) (is_whole sweeps h) whole in
    whole_range sweeps k range h there parts.1

pub option_cases : (o : Option HartState) → (o ≡ None) ⊎ ((h : HartState) × (o ≡ Some h))
option_cases None = inl refl
option_cases (Some h) = inr (h, refl)

module _ (program : List Instr) (sweeps : List SweepRange) (hides : HartState → HartState → Bool) where
  abbrev pub quiet : HartState → Bool
  quiet h = is_quiet program sweeps hides h

  abbrev own : HartState → HartState
  own h = own_step program h

  abbrev way : ℕ → HartState → Option HartState
  way k h = come program sweeps hides k h

  abbrev steps : ℕ → HartState → ℕ
  steps k h = steps_to_rest program sweeps hides k h

  -- what is so of a hart whose next step is quiet
  pub record IsQuiet (h : HartState) : Type 0 where
    pub runs : is_running h.status ≡ true
    pub alone : asks_memory program h ≡ false
    pub whole : is_whole sweeps h ≡ true
    pub whole_after : is_whole sweeps (own h) ≡ true
    pub unseen : hides h (own h) ≡ true

  pub quiet_is : (h : HartState) → quiet h ≡ true → IsQuiet h
  unfolding is_quiet
  quiet_is h holds =
      let a = and_parts (is_running h.status) (not (asks_memory program h) && (is_whole sweeps h
      && (is_whole sweeps (own h) && hides h (own h)))) holds in
      let b = and_parts (not (asks_memory program h)) (is_whole sweeps h
      && (is_whole sweeps (own h) && hides h (own h))) a.1 in
      let c = and_parts (is_whole sweeps h) (is_whole sweeps (own h) && hides h (own h)) b.1 in
      let d = and_parts (is_whole sweeps (own h)) (hides h (own h)) c.1 in
      record {
        runs = a.0;
        alone = not-true (asks_memory program h) b.0;
        whole = c.0;
        whole_after = d.0;
        unseen = d.1;
      }

  pub come_on : (k : ℕ) (h : HartState) → quiet h ≡ true → way (suc k) h ≡ way k (own h)
  unfolding come
  come_on k h holds = rw holds

  pub come_none : (h : HartState) → quiet h ≡ true → way 0 h ≡ None
  unfolding come
  come_none h holds = rw holds

  pub come_stop : (k : ℕ) (h : HartState) → quiet h ≡ false → way k h ≡ Some h
  unfolding come
  come_stop zero h fails = rw fails
  come_stop (suc k) h fails = rw fails

  come_more : (k : ℕ) (h g : HartState) → way k h ≡ Some g → way (suc k) h ≡ Some g
  come_more zero h g is = elim (cases_Bool (quiet h)) [
    | inl holds ↦ absurd (none-some g (sym (come_none h holds) ∙ is))
    | inr fails ↦ come_stop 1 h fails ∙ (sym (come_stop 0 h fails) ∙ is)
  ]
  come_more (suc k) h g is = elim (cases_Bool (quiet h)) [
    | inl holds ↦ come_on (suc k) h holds ∙ come_more k (own h) g (sym (come_on k h holds) ∙ is)
    | inr fails ↦ come_stop (suc (suc k)) h fails ∙ (sym (come_stop (suc k) h fails) ∙ is)
  ]

  pub stopped_at : (k : ℕ) (h g : HartState) → quiet h ≡ false → way k h ≡ Some g → h ≡ g
  stopped_at k h g fails is = same_Some h g (sym (come_stop k h fails) ∙ is)

  come_end : (k : ℕ) (h g : HartState) → way k h ≡ Some g → quiet g ≡ false
  come_end zero h g is = elim (cases_Bool (quiet h)) [
    | inl holds ↦ absurd (none-some g (sym (come_none h holds) ∙ is))
    | inr fails ↦ subst (λ (x : HartState). quiet x ≡ false) (stopped_at 0 h g fails is) fails
  ]
  come_end (suc k) h g is = elim (cases_Bool (quiet h)) [
    | inl holds ↦ come_end k (own h) g (sym (come_on k h holds) ∙ is)
    | inr fails ↦ subst (λ (x : HartState). quiet x ≡ false) (stopped_at (suc k) h g fails is) fails
  ]

  whole_end : (k : ℕ) (h g : HartState) → is_whole sweeps h ≡ true → way k h ≡ Some g → is_whole sweeps g ≡ true
  whole_end zero h g whole is = elim (cases_Bool (quiet h)) [
    | inl holds ↦ absurd (none-some g (sym (come_none h holds) ∙ is))
    | inr fails ↦ subst (λ (x : HartState). is_whole sweeps x ≡ true) (stopped_at 0 h g fails is) whole
  ]
  whole_end (suc k) h g whole is = elim (cases_Bool (quiet h)) [
    | inl holds ↦ whole_end k (own h) g (quiet_is h holds).whole_after (sym (come_on k h holds) ∙ is)
    | inr fails ↦ subst (λ (x : HartState). is_whole sweeps x ≡ true) (stopped_at (suc k) h g fails is) whole
  ]

  pub steps_on : (k : ℕ) (h : HartState) → quiet h ≡ true → steps (suc k) h ≡ suc (steps k (own h))
  unfolding steps_to_rest
  steps_on k h holds = rw holds

  pub steps_stop : (k : ℕ) (h : HartState) → quiet h ≡ false → steps k h ≡ 0
  unfolding steps_to_rest
  steps_stop zero h fails = refl
  steps_stop (suc k) h fails = rw fails

  steps_few : (k : ℕ) (h : HartState) → steps k h ≤ k
  unfolding steps_to_rest
  steps_few zero h = omega arith
  steps_few (suc k) h = elim (cases_Bool (quiet h)) [
    | inl holds ↦
        let one = steps_on k h holds in
        let few = steps_few k (own h) in
        omega arith
    | inr fails ↦ let none = steps_stop (suc k) h fails in omega arith
  ]

  steps_more : (k : ℕ) (h g : HartState) → way k h ≡ Some g → steps (suc k) h ≡ steps k h
  steps_more zero h g is = elim (cases_Bool (quiet h)) [
    | inl holds ↦ absurd (none-some g (sym (come_none h holds) ∙ is))
    | inr fails ↦ steps_stop 1 h fails ∙ sym (steps_stop 0 h fails)
  ]
  steps_more (suc k) h g is = elim (cases_Bool (quiet h)) [
    | inl holds ↦
        steps_on (suc k) h holds ∙ (ap (λ (n : ℕ). suc n) (steps_more k (own h) g (sym (come_on k h holds) ∙ is))
        ∙ sym (steps_on k h holds))
    | inr fails ↦ steps_stop (suc (suc k)) h fails ∙ sym (steps_stop (suc k) h fails)
  ]

  module _ (most : ℕ) where
    abbrev pub rested : HartState → HartState
    rested h = rest program sweeps hides most h

    pub rest_none : (h : HartState) → way most h ≡ None → rested h ≡ h
    unfolding rest
    rest_none h is = ap (λ (o : Option HartState). unwrap_or o h) is

    pub rest_some : (h g : HartState) → way most h ≡ Some g → rested h ≡ g
    unfolding rest
    rest_some h g is = ap (λ (o : Option HartState). unwrap_or o h) is

    pub rest_still : (h : HartState) → quiet h ≡ false → rested h ≡ h
    rest_still h fails = rest_some h h (come_stop most h fails)

    -- the hart's next step is quiet, and its quiet steps lead here
    abbrev pub Moves : HartState → HartState → Type 0
    Moves h g = (quiet h ≡ true) × (way most h ≡ Some g)

    pub moves_or_rests : (h : HartState) → ((g : HartState) × Moves h g) ⊎ (rested h ≡ h)
    moves_or_rests h = elim (cases_Bool (quiet h)) [
      | inl holds ↦ elim (option_cases (way most h)) [
        | inl none ↦ inr (rest_none h none)
        | inr some ↦ inl (some.0, (holds, some.1))
      ]
      | inr fails ↦ inr (rest_still h fails)
    ]

    pub rest_twice : (h : HartState) → rested (rested h) ≡ rested h
    rest_twice h = elim (option_cases (way most h)) [
      | inl none ↦ ap rested (rest_none h none)
      | inr some ↦
          let e = rest_some h some.0 some.1 in
          ap rested e ∙ (rest_still some.0 (come_end most h some.0 some.1) ∙ sym e)
    ]

    pub rest_stopped : (h : HartState) → is_running h.status ≡ false → rested h ≡ h
    rest_stopped h stopped = elim (cases_Bool (quiet h)) [
      | inl holds ↦ absurd (both_ways (is_running h.status) stopped (quiet_is h holds).runs)
      | inr fails ↦ rest_still h fails
    ]

    pub running_rest : (h : HartState) → is_running (rested h).status ≡ true → is_running h.status ≡ true
    running_rest h runs = elim (cases_Bool (is_running h.status)) [
      | inl holds ↦ holds
      | inr fails ↦
          let e : is_running (rested h).status ≡ is_running h.status =
          ap (λ (x : HartState). is_running x.status) (rest_stopped h fails) in
          sym e ∙ runs
    ]

    rest_whole : (h : HartState) → is_whole sweeps h ≡ true → is_whole sweeps (rested h) ≡ true
    rest_whole h whole = elim (option_cases (way most h)) [
      | inl none ↦ subst (λ (x : HartState). is_whole sweeps x ≡ true) (sym (rest_none h none)) whole
      | inr some ↦
          subst (λ (x : HartState). is_whole sweeps x ≡ true) (sym (rest_some h some.0 some.1))
          (whole_end most h some.0 whole some.1)
    ]

    broken_still : (h : HartState) → is_whole sweeps h ≡ false → rested h ≡ h
    broken_still h broken = elim (cases_Bool (quiet h)) [
      | inl holds ↦ absurd (both_ways (is_whole sweeps h) broken (quiet_is h holds).whole)
      | inr fails ↦ rest_still h fails
    ]

    pub swept_rest : (k : ℕ) (range : SweepRange) (h : HartState) → slice_get sweeps k ≡ Some range →
        rested (swept_hart range.lo range.hi (rested h)) ≡ rested (swept_hart range.lo range.hi h)
    swept_rest k range h there = elim (cases_Bool (is_whole sweeps h)) [
      | inl whole ↦
          ap rested (whole_range sweeps k range (rested h) there (rest_whole h whole))
          ∙ (rest_twice h ∙ ap rested (sym (whole_range sweeps k range h there whole)))
      | inr broken ↦ ap (λ (x : HartState). rested (swept_hart range.lo range.hi x)) (broken_still h broken)
    ]

    -- a quiet step brings the hart nearer to its rest, where it comes to it
    pub rest_own : (h g : HartState) → Moves h g → rested (own h) ≡ rested h
    rest_own h g moves = own_of most h g moves refl where
      own_of : (k : ℕ) (h g : HartState) → Moves h g → k ≡ most → rested (own h) ≡ rested h
      own_of zero h g moves is =
          absurd (none-some g (sym (come_none h moves.0) ∙ subst (λ (n : ℕ). way n h ≡ Some g) (sym is) moves.1))
      own_of (suc k) h g moves is =
          let before = subst (λ (n : ℕ). way n h ≡ Some g) (sym is) moves.1 in
          let after = come_more k (own h) g (sym (come_on k h moves.0) ∙ before) in
          rest_some (own h) g (subst (λ (n : ℕ). way n (own h) ≡ Some g) is after) ∙ sym (rest_some h g moves.1)

    -- how many quiet steps a hart has to go; more than any where a sweep can change it
    pub to_go : HartState → ℕ
    to_go h = cond (is_whole sweeps h) (steps most h) (suc most)

    go_whole : (h : HartState) → is_whole sweeps h ≡ true → to_go h ≡ steps most h
    unfolding to_go
    go_whole h whole = rw whole

    go_broken : (h : HartState) → is_whole sweeps h ≡ false → to_go h ≡ suc most
    unfolding to_go
    go_broken h broken = rw broken

    pub go_few : (h : HartState) → to_go h ≤ suc most
    go_few h = elim (cases_Bool (is_whole sweeps h)) [
      | inl whole ↦
          let e = go_whole h whole in
          let few = steps_few most h in
          omega arith
      | inr broken ↦ let e = go_broken h broken in omega arith
    ]

    pub go_swept : (k : ℕ) (range : SweepRange) (h : HartState) → slice_get sweeps k ≡ Some range →
        to_go (swept_hart range.lo range.hi h) ≤ to_go h
    go_swept k range h there = elim (cases_Bool (is_whole sweeps h)) [
      | inl whole ↦ let e = ap to_go (whole_range sweeps k range h there whole) in omega arith
      | inr broken ↦
          let e = go_broken h broken in
          let few = go_few (swept_hart range.lo range.hi h) in
          omega arith
    ]

    go_less : (k : ℕ) (h g : HartState) → quiet h ≡ true → way k h ≡ Some g → steps k (own h) < steps k h
    go_less zero h g holds is = absurd (none-some g (sym (come_none h holds) ∙ is))
    go_less (suc k) h g holds is =
        let one = steps_on k h holds in
        let same = steps_more k (own h) g (sym (come_on k h holds) ∙ is) in
        omega arith

    pub go_own : (h g : HartState) → Moves h g → to_go (own h) < to_go h
    go_own h g moves =
        let is = quiet_is h moves.0 in
        let before = go_whole h is.whole in
        let after = go_whole (own h) is.whole_after in
        let less = go_less most h g moves.0 moves.1 in
        omega arith

    -- a loop over quiet steps: the way from where it stands is the rest of the way
    abbrev pub IsOnWay : ℕ → HartState → HartState → Type 0
    IsOnWay i h at = way (most - i) at ≡ way most h

    pub on_way : (i : ℕ) (h at : HartState) → IsOnWay i h at → i < most → quiet at ≡ true → IsOnWay (i + 1) h (own at)
    on_way i h at is below quiet_at =
        let more : most - i ≡ suc (most - (i + 1)) = omega arith in
        sym (come_on (most - (i + 1)) at quiet_at) ∙ (sym (ap (λ (k : ℕ). way k at) more) ∙ is)

    pub rest_here : (i : ℕ) (h at : HartState) → IsOnWay i h at → quiet at ≡ false → rested h ≡ at
    rest_here i h at is stays = rest_some h at (sym is ∙ come_stop (most - i) at stays)

    pub rest_never : (i : ℕ) (h at : HartState) → IsOnWay i h at → most ≤ i → quiet at ≡ true → rested h ≡ h
    rest_never i h at is past quiet_at =
        let zero_left : most - i ≡ 0 = omega arith in
        rest_none h (sym is ∙ (ap (λ (k : ℕ). way k at) zero_left ∙ come_none at quiet_at))

  -- a loop over quiet steps counts them
  abbrev pub IsCounted : ℕ → ℕ → HartState → HartState → Type 0
  IsCounted most i h at = steps most h ≡ i + steps (most - i) at

  pub count_on : (most i : ℕ) (h at : HartState) → IsCounted most i h at → i < most → quiet at ≡ true →
      IsCounted most (i + 1) h (own at)
  count_on most i h at is below quiet_at =
      let more : most - i ≡ suc (most - (i + 1)) = omega arith in
      let one = ap (λ (k : ℕ). steps k at) more ∙ steps_on (most - (i + 1)) at quiet_at in
      omega (arith, is, one)

  pub counted_here : (most i : ℕ) (h at : HartState) → IsOnWay most i h at → IsCounted most i h at → quiet at ≡ false →
      if_it_comes (way most h) (steps most h) ≡ i
  counted_here most i h at way_is is stays =
      let none = steps_stop (most - i) at stays in
      let some : way most h ≡ Some at = sym way_is ∙ come_stop (most - i) at stays in
      ap (λ (o : Option HartState). if_it_comes o (steps most h)) some ∙ omega (arith, is, none)

  pub counted_never : (most i : ℕ) (h at : HartState) → IsOnWay most i h at → most ≤ i → quiet at ≡ true →
      if_it_comes (way most h) (steps most h) ≡ 0
  counted_never most i h at is past quiet_at =
      let zero_left : most - i ≡ 0 = omega arith in
      ap (λ (o : Option HartState). if_it_comes o (steps most h))
      (sym is ∙ (ap (λ (k : ℕ). way k at) zero_left ∙ come_none at quiet_at))

  -- what a step that may be quiet answers
  abbrev pub quiet_or_none : HartState → Option HartState
  quiet_or_none h = cond (quiet h) (Some (own h)) None

  pub was_quiet : (h after : HartState) → quiet_or_none h ≡ Some after → (quiet h ≡ true) × (own h ≡ after)
  was_quiet h after is = cond_some (quiet h) (own h) after is

  pub was_not_quiet : (h : HartState) → quiet_or_none h ≡ None → quiet h ≡ false
  was_not_quiet h is = elim (cases_Bool (quiet h)) [
    | inl holds ↦
        let some : quiet_or_none h ≡ Some (own h) = rw holds in
        absurd (none-some (own h) (sym is ∙ some))
    | inr fails ↦ fails
  ]
