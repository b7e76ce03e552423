-- A state that passes a test passes it with each hart at its rest, and what sees every step.
use Rattle.std.proofs.Common.{◌≡◌, ℕ, zero, suc, ◌<◌, List, [], ◌∷◌, ◌++◌, length, map, set, arith, ap, sym, ◌∙◌, refl, inl, inr, subst, length-set}
use Rattle.std.specs.Prelude.{Option, Some, None, Bool, true, false, slice_get, ◌&&◌, not, option_map}
use Rattle.std.proofs.lemmas.Bool.{cases_Bool, both_ways}
use Rattle.std.proofs.lemmas.List.{append_assoc, get_or_at, set_at, length-append}
use Rattle.std.proofs.lemmas.Option.{none-some, slice_get-get_or}
use Rattle.cap_model.specs.values.CapValue.{CapValue}
use Rattle.cheri_model.specs.runs.Image.{ImageParts}
use Rattle.cheri_model.specs.runs.Machine.{MachineState, hart_at, no_hart}
use Rattle.cheri_model.specs.steps.Hart.{HartState}
use Rattle.explore_sights.specs.declared.sights.Sight.{Sight}
use Rattle.explore_sights.specs.declared.sights.Sight.TheVariants.{EveryStep}
use Rattle.explore_sights.specs.Sights.{hides}
use Rattle.explore_turns.specs.declared.quiet.TheConstants.{MAX_QUIET_STEPS}
use Rattle.explore_turns.specs.QuietSteps.{own_step, come, is_quiet}
use Rattle.explore_turns.specs.Turns.{rest_of, rest_by, turn_by, resting, KeepsPassing}
use Rattle.explore_turns.proofs.RestLemmas.{quiet, quiet_is, rest_none, rest_some, rest_still, option_cases, come_on, come_none, stopped_at}
use Rattle.explore_turns.proofs.TurnLemmas.{own_place, with_twice, hart_with, same_state}
use Rattle.schedules.specs.declared.ranges.SweepRange.{SweepRange}
use Rattle.schedules.specs.Schedules.{next}

module _ (image : ImageParts) (sweeps : List SweepRange) (sight : Sight) where
  abbrev seen : HartState → HartState → Bool
  seen = hides sight

  abbrev rests : HartState → HartState
  rests h = resting image sweeps sight h

  abbrev made : List HartState → List CapValue → MachineState
  made harts memory = record { harts = harts; memory = memory }

  abbrev replace : MachineState → ℕ → HartState → MachineState
  replace s l h = record { harts = set s.harts l h; memory = s.memory }

  hart_there : (s : MachineState) (l : ℕ) → l < length s.harts → slice_get s.harts l ≡ Some (hart_at s l)
  unfolding hart_at
  hart_there s l low = slice_get-get_or s.harts l no_hart low

  module _ (passing : MachineState → Bool) (keeps : KeepsPassing seen passing) where
    way_passes : (k : ℕ) (s : MachineState) (l : ℕ) (g : HartState) → l < length s.harts →
        come image.program sweeps seen k (hart_at s l) ≡ Some g → passing s ≡ true → passing (replace s l g) ≡ true
    way_passes zero s l g low is holds = elim (cases_Bool (quiet image.program sweeps seen (hart_at s l))) [
      | inl moves ↦ absurd (none-some g (sym (come_none image.program sweeps seen (hart_at s l) moves) ∙ is))
      | inr stays ↦
          subst (λ (t : MachineState). passing t ≡ true)
          (own_place image sweeps seen 0 s l g (stopped_at image.program sweeps seen 0 (hart_at s l) g stays is)) holds
    ]
    way_passes (suc k) s l g low is holds = elim (cases_Bool (quiet image.program sweeps seen (hart_at s l))) [
      | inl moves ↦
          let h = hart_at s l in
          let own = own_step image.program h in
          let on = replace s l own in
          let here : hart_at on l ≡ own = hart_with image sweeps seen 0 s l own low in
          let there : come image.program sweeps seen k (hart_at on l) ≡ Some g =
          ap (λ (x : HartState). come image.program sweeps seen k x) here
          ∙ (sym (come_on image.program sweeps seen k h moves) ∙ is) in
          let size : length on.harts ≡ length s.harts = length-set s.harts l own in
          let one : passing on ≡ true =
          keeps s l h own (hart_there s l low) (quiet_is image.program sweeps seen h moves).unseen holds in
          subst (λ (t : MachineState). passing t ≡ true) (with_twice image sweeps seen 0 s l own g)
          (way_passes k on l g (omega (arith, size, low)) there one)
      | inr stays ↦
          subst (λ (t : MachineState). passing t ≡ true)
          (own_place image sweeps seen 0 s l g (stopped_at image.program sweeps seen (suc k) (hart_at s l) g stays is)) holds
    ]

    one_passes : (s : MachineState) (l : ℕ) → l < length s.harts → passing s ≡ true →
        passing (replace s l (rests (hart_at s l))) ≡ true
    one_passes s l low holds =
        let h = hart_at s l in
        elim (option_cases (come image.program sweeps seen MAX_QUIET_STEPS h)) [
          | inl none ↦
              subst (λ (t : MachineState). passing t ≡ true)
              (own_place image sweeps seen 0 s l (rests h)
              (sym (rest_none image.program sweeps seen MAX_QUIET_STEPS h none))) holds
          | inr some ↦
              subst (λ (g : HartState). passing (replace s l g) ≡ true)
              (sym (rest_some image.program sweeps seen MAX_QUIET_STEPS h some.0 some.1))
              (way_passes MAX_QUIET_STEPS s l some.0 low some.1 holds)
        ]

    hart_here : (done : List HartState) (h : HartState) (harts : List HartState) (memory : List CapValue) (first : ℕ) →
        length done ≡ first → hart_at (made (done ++ h ∷ harts) memory) first ≡ h
    unfolding hart_at
    hart_here done h harts memory first at = get_or_at done h harts no_hart first at

    all_pass : (done harts : List HartState) (memory : List CapValue) (first : ℕ) → length done ≡ first →
        passing (made (done ++ harts) memory) ≡ true → passing (made (done ++ map rests harts) memory) ≡ true
    all_pass done [] memory first at holds = holds
    all_pass done (h ∷ harts) memory first at holds =
        let s = made (done ++ h ∷ harts) memory in
        let total = length-append done (h ∷ harts) in
        let more : length (h ∷ harts) ≡ suc (length harts) = refl in
        let low : first < length (done ++ h ∷ harts) = omega (arith, total, more, at) in
        let one : passing (made (done ++ rests h ∷ harts) memory) ≡ true =
        subst (λ (hs : List HartState). passing (made hs memory) ≡ true) (set_at done h harts (rests h) first at)
        (subst (λ (x : HartState). passing (replace s first (rests x)) ≡ true) (hart_here done h harts memory first at)
        (one_passes s first low holds)) in
        let sum = length-append done (rests h ∷ []) in
        let single : length (rests h ∷ []) ≡ 1 = refl in
        let size : length (done ++ rests h ∷ []) ≡ suc first = omega (arith, sum, single, at) in
        subst (λ (hs : List HartState). passing (made hs memory) ≡ true) (append_assoc done (rests h ∷ []) (map rests harts))
        (all_pass (done ++ rests h ∷ []) harts memory (suc first) size
        (subst (λ (hs : List HartState). passing (made hs memory) ≡ true) (sym (append_assoc done (rests h ∷ []) harts)) one))

    pub rest_passes : (s : MachineState) → passing s ≡ true → passing (rest_by image sweeps sight s) ≡ true
    unfolding rest_of
    rest_passes s holds = all_pass [] s.harts s.memory 0 refl holds

-- where every step is seen none is quiet
none_quiet : (image : ImageParts) (sweeps : List SweepRange) (h : HartState) → is_quiet image.program sweeps (hides EveryStep) h ≡ false
unfolding hides
none_quiet image sweeps h = elim (cases_Bool (is_quiet image.program sweeps (hides EveryStep) h)) [
  | inl holds ↦ absurd (both_ways false refl (quiet_is image.program sweeps (hides EveryStep) h holds).unseen)
  | inr fails ↦ fails
]

pub seen_rests : (image : ImageParts) (sweeps : List SweepRange) (h : HartState) → resting image sweeps EveryStep h ≡ h
seen_rests image sweeps h = rest_still image.program sweeps (hides EveryStep) MAX_QUIET_STEPS h (none_quiet image sweeps h)

all_rest : (image : ImageParts) (sweeps : List SweepRange) (hs : List HartState) → map (resting image sweeps EveryStep) hs ≡ hs
all_rest image sweeps [] = refl
all_rest image sweeps (h ∷ hs) =
    ap (λ (g : HartState). g ∷ map (resting image sweeps EveryStep) hs) (seen_rests image sweeps h)
    ∙ ap (λ (gs : List HartState). h ∷ gs) (all_rest image sweeps hs)

pub seen_states_rest : (image : ImageParts) (sweeps : List SweepRange) (s : MachineState) → rest_by image sweeps EveryStep s ≡ s
unfolding rest_of
seen_states_rest image sweeps s =
    same_state (map (resting image sweeps EveryStep) s.harts) s.harts s.memory s.memory (all_rest image sweeps s.harts) refl

pub seen_turns : (image : ImageParts) (sweeps : List SweepRange) (s : MachineState) (l : ℕ) →
    turn_by image sweeps EveryStep s l ≡ next image sweeps s l
seen_turns image sweeps s l = same (next image sweeps s l) where
  same : (o : Option MachineState) → option_map (rest_by image sweeps EveryStep) o ≡ o
  same None = refl
  same (Some t) = ap (λ (x : MachineState). Some x) (seen_states_rest image sweeps t)
