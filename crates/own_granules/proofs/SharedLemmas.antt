-- Where all granules are shared, quiet steps touch no memory, and rests are those of explore_turns.
use Rattle.std.proofs.Common.{◌≡◌, ℕ, zero, suc, ◌+◌, ◌<◌, ◌≤◌, List, [], ◌∷◌, ◌++◌, length, map, take, drop, set, get_or, arith, ap, sym, ◌∙◌, refl, inl, inr, nat_lt, length-set}
use Rattle.std.specs.Prelude.{Option, Some, None, option_map, Bool, true, false, ◌&&◌}
use Rattle.std.proofs.lemmas.Bool.{cases_Bool, lt-ltb, and_from}
use Rattle.std.proofs.lemmas.List.{take_all, drop_all, append-nil}
use Rattle.std.proofs.lemmas.List.Edits.{map_over_more}
use Rattle.std.proofs.lemmas.Option.{slice_get-get_or, get_or_from_slice_get}
use Rattle.cap_model.specs.values.CapValue.{CapValue}
use Rattle.cheri_model.specs.runs.Image.{ImageParts}
use Rattle.cheri_model.specs.runs.Machine.{MachineState, opening_state, hart_at, no_hart, may_take, state_after_step}
use Rattle.cheri_model.specs.steps.Hart.{HartState}
use Rattle.explore_turns.proofs.QuietLemmas.{own_step_alone}
use Rattle.explore_turns.proofs.RestLemmas as hart
use Rattle.explore_turns.proofs.TurnLemmas.{same_state, with_hart, step_moves, own_place, with_twice, hart_with}
use Rattle.explore_turns.specs.QuietSteps as own
use Rattle.explore_turns.specs.Turns as turns
use Rattle.own_granules.specs.Granules.{are_kept, is_private, is_quiet, leaves_kept, respects, respects_in}
use Rattle.own_granules.specs.Rests.{come, rest_one, rest_first, way_passes, ways_pass, after_passes}
use Rattle.own_granules.specs.Turns.{rest_of, AreOwned}
use Rattle.schedules.specs.declared.ranges.SweepRange.{SweepRange}
use Rattle.own_granules.proofs.WayLemmas.{come_on, come_none, come_stop, rest_none, rest_some}

module _ (image : ImageParts) (sweeps : List SweepRange) (hides : HartState → HartState → Bool) (most : ℕ) where
  abbrev all : ℕ → Bool
  all granule = true

  abbrev step : MachineState → ℕ → MachineState
  step s l = state_after_step image s l

  abbrev quiet : MachineState → ℕ → Bool
  quiet s l = is_quiet image sweeps all hides s l

  abbrev hart_quiet : HartState → Bool
  hart_quiet h = own.is_quiet image.program sweeps hides h

  abbrev rested : HartState → HartState
  rested h = own.rest image.program sweeps hides most h

  abbrev placed : MachineState → ℕ → HartState → MachineState
  placed s l h = with_hart image sweeps hides most s l h

  and_false : (b : Bool) → (b && false) ≡ false
  and_false true = refl
  and_false false = refl

  same_quiet : (s : MachineState) (l : ℕ) → l < length s.harts → quiet s l ≡ hart_quiet (hart_at s l)
  unfolding is_quiet is_private own.is_quiet may_take
  same_quiet s l low =
      let h = hart_at s l in
      let below : nat_lt l (length s.harts) ≡ true = lt-ltb l (length s.harts) low in
      elim (cases_Bool (own.asks_memory image.program h)) [
        | inl asks ↦ rw (below, asks) refl
        | inr alone ↦
            let same = (own_step_alone image.program h s.memory alone).0 in
            rw (below, alone, same) refl
      ]

  same_way : (k l : ℕ) (s : MachineState) → l < length s.harts →
      come step quiet l k s ≡ option_map (placed s l) (own.come image.program sweeps hides k (hart_at s l))
  same_way zero l s low =
      let same = same_quiet s l low in
      elim (cases_Bool (quiet s l)) [
        | inl holds ↦
            come_none step quiet l s holds
            ∙ sym (ap (option_map (placed s l))
            (hart.come_none image.program sweeps hides (hart_at s l) (sym same ∙ holds)))
        | inr fails ↦
            come_stop step quiet l 0 s fails
            ∙ (ap (λ (x : MachineState). Some x) (own_place image sweeps hides most s l (hart_at s l) refl)
            ∙ sym (ap (option_map (placed s l))
            (hart.come_stop image.program sweeps hides 0 (hart_at s l) (sym same ∙ fails))))
      ]
  same_way (suc k) l s low =
      let same = same_quiet s l low in
      let h = hart_at s l in
      let to = own.own_step image.program h in
      elim (cases_Bool (quiet s l)) [
        | inl holds ↦
            let moves = sym same ∙ holds in
            let there : step s l ≡ placed s l to = step_moves image sweeps hides most s l moves in
            let size : length (placed s l to).harts ≡ length s.harts = length-set s.harts l to in
            let tail = same_way k l (placed s l to) (omega (arith, low, size)) in
            let again : Option HartState → Option MachineState = option_map (placed (placed s l to) l) in
            let twice : (o : Option HartState) → again o ≡ option_map (placed s l) o =
            λ o. elim o as (λ (o : Option HartState). again o ≡ option_map (placed s l) o) [
              | None ↦ refl
              | Some g ↦ ap (λ (x : MachineState). Some x) (with_twice image sweeps hides most s l to g)
            ] in
            come_on step quiet l k s holds
            ∙ (ap (come step quiet l k) there
            ∙ (tail
            ∙ (twice (own.come image.program sweeps hides k (hart_at (placed s l to) l))
            ∙ ap (option_map (placed s l))
            (ap (own.come image.program sweeps hides k) (hart_with image sweeps hides most s l to low)
            ∙ sym (hart.come_on image.program sweeps hides k h moves)))))
        | inr fails ↦
            come_stop step quiet l (suc k) s fails
            ∙ (ap (λ (x : MachineState). Some x) (own_place image sweeps hides most s l h refl)
            ∙ sym (ap (option_map (placed s l))
            (hart.come_stop image.program sweeps hides (suc k) h (sym same ∙ fails))))
      ]

  same_one : (l : ℕ) (s : MachineState) → l < length s.harts →
      rest_one step quiet most l s ≡ placed s l (rested (hart_at s l))
  same_one l s low =
      let h = hart_at s l in
      let both = same_way most l s low in
      elim (hart.option_cases (own.come image.program sweeps hides most h)) [
        | inl none ↦
            rest_none step quiet l most s (both ∙ ap (option_map (placed s l)) none)
            ∙ (own_place image sweeps hides most s l h refl
            ∙ ap (placed s l) (sym (hart.rest_none image.program sweeps hides most h none)))
        | inr some ↦
            rest_some step quiet l most s (placed s l some.0) (both ∙ ap (option_map (placed s l)) some.1)
            ∙ ap (placed s l) (sym (hart.rest_some image.program sweeps hides most h some.0 some.1))
      ]

  -- the state with the first harts at their rest
  abbrev first_rest : ℕ → MachineState → MachineState
  first_rest i s = record { harts = map rested (take i s.harts) ++ drop i s.harts; memory = s.memory }

  next_rest : (s : MachineState) (i : ℕ) → i < length s.harts → length (first_rest i s).harts ≡ length s.harts →
      placed (first_rest i s) i (rested (hart_at (first_rest i s) i)) ≡ first_rest (i + 1) s
  unfolding hart_at
  next_rest s i low size =
      let harts = (first_rest i s).harts in
      let below : i < length harts = omega (arith, low, size) in
      let x = get_or harts i no_hart in
      let there : x ≡ get_or harts i x =
      sym (get_or_from_slice_get harts i x x (slice_get-get_or harts i no_hart below)) in
      same_state (set harts i (rested x)) (first_rest (i + 1) s).harts s.memory s.memory
      (map_over_more rested s.harts harts i x low refl there) refl

  same_first : (i : ℕ) (s : MachineState) → i ≤ length s.harts →
      (rest_first step quiet most i s ≡ first_rest i s) × (length (first_rest i s).harts ≡ length s.harts)
  unfolding rest_first
  same_first zero s low = (refl, refl)
  same_first (suc i) s low =
      let before = same_first i s (omega (arith, low)) in
      let r = first_rest i s in
      let size = before.1 in
      let more : i + 1 ≡ suc i = omega arith in
      let on = next_rest s i (omega (arith, low)) size ∙ ap (λ (k : ℕ). first_rest k s) more in (
        ap (rest_one step quiet most i) before.0 ∙ (same_one i r (omega (arith, low, size)) ∙ on),
        sym (ap (λ (x : MachineState). length x.harts) on) ∙ (length-set r.harts i (rested (hart_at r i)) ∙ size),
      )

  pub same_rest : (s : MachineState) → length s.harts ≡ length image.harts →
      rest_of image sweeps all hides most s ≡ turns.rest_of image sweeps hides most s
  unfolding turns.rest_of
  same_rest s size =
      let n = length s.harts in
      let whole : map rested (take n s.harts) ++ drop n s.harts ≡ map rested s.harts =
      ap (λ (hs : List HartState). map rested (take n s.harts) ++ hs) (drop_all n s.harts (omega arith))
      ∙ (append-nil (map rested (take n s.harts)) ∙ ap (map rested) (take_all n s.harts (omega arith))) in
      ap (λ (k : ℕ). rest_first step quiet most k s) (sym size)
      ∙ ((same_first n s (omega arith)).0
      ∙ same_state (first_rest n s).harts (map rested s.harts) s.memory s.memory whole refl)

-- a test that always passes
always_way : {S : Type 0} (step : S → ℕ → S) (quiet passes : S → ℕ → Bool) → ((s : S) (l : ℕ) → passes s l ≡ true) →
    (k l : ℕ) (s : S) → way_passes step quiet passes l k s ≡ true
unfolding way_passes
always_way step quiet passes always zero l s = elim (cases_Bool (quiet s l)) [
  | inl holds ↦ rw (holds, always s l) refl
  | inr fails ↦ rw fails refl
]
always_way step quiet passes always (suc k) l s = elim (cases_Bool (quiet s l)) [
  | inl holds ↦ rw (holds, always s l, always_way step quiet passes always k l (step s l)) refl
  | inr fails ↦ rw fails refl
]

always_ways : {S : Type 0} (step : S → ℕ → S) (quiet passes : S → ℕ → Bool) → ((s : S) (l : ℕ) → passes s l ≡ true) →
    (most i : ℕ) (s : S) → ways_pass step quiet passes most i s ≡ true
unfolding ways_pass
always_ways step quiet passes always most zero s = refl
always_ways step quiet passes always most (suc i) s =
    and_from (ways_pass step quiet passes most i s)
    (way_passes step quiet passes i most (rest_first step quiet most i s))
    (always_ways step quiet passes always most i s)
    (always_way step quiet passes always most i (rest_first step quiet most i s))

always_after : {S : Type 0} (step : S → ℕ → S) (quiet passes : S → ℕ → Bool) → ((s : S) (l : ℕ) → passes s l ≡ true) →
    (most n l : ℕ) (s : S) → after_passes step quiet passes most n l s ≡ true
unfolding after_passes
always_after step quiet passes always most n l s = elim (cases_Bool (nat_lt l n)) [
  | inl own ↦ rw own (always_way step quiet passes always most l s)
  | inr past ↦ rw past (always_ways step quiet passes always most n s)
]

shared_respected : (image : ImageParts) (sweeps : List SweepRange) (owner : ℕ → Option ℕ) (s : MachineState) (l : ℕ) →
    respects_in image sweeps (λ granule. true) owner s l ≡ true
unfolding respects leaves_kept
shared_respected image sweeps owner s l = elim (cases_Bool (own.asks_memory image.program (hart_at s l))) [
  | inl asks ↦ rw asks refl
  | inr none ↦ rw none refl
]

shared_kept : (sweeps : List SweepRange) (k : ℕ) (m : List CapValue) → are_kept sweeps (λ granule. true) k m ≡ true
unfolding are_kept
shared_kept sweeps k [] = refl
shared_kept sweeps k (v ∷ m) = shared_kept sweeps (suc k) m

pub shared_owned : (image : ImageParts) (sweeps : List SweepRange) (owner : ℕ → Option ℕ)
    (hides : HartState → HartState → Bool) (most : ℕ) → AreOwned image sweeps (λ granule. true) owner hides most
shared_owned image sweeps owner hides most =
    let step : MachineState → ℕ → MachineState = state_after_step image in
    let quiet : MachineState → ℕ → Bool = is_quiet image sweeps (λ granule. true) hides in
    let passes : MachineState → ℕ → Bool = respects_in image sweeps (λ granule. true) owner in
    let always = shared_respected image sweeps owner in
    record {
      kept = shared_kept sweeps 0 (opening_state image).memory;
      met = record {
        opening = always_ways step quiet passes always most (length image.harts) (opening_state image);
        edges = λ s t l reached goes. (always s l, always_after step quiet passes always most (length image.harts) l t);
      };
    }
