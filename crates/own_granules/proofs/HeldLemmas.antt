-- The rest of a machine's states, hart by hart.
use Rattle.std.proofs.Common.{◌≡◌, ℕ, zero, suc, ◌<◌, List, length, set, arith, ap, sym, ◌∙◌, refl, inl, inr, nat_lt, length-set}
use Rattle.std.specs.Prelude.{Option, Some, None, option_map, Bool, true, false, slice_get}
use Rattle.std.proofs.lemmas.Bool.{cases_Bool, cases_lt, lt-ltb}
use Rattle.std.proofs.lemmas.Bool.Decides.{nat_tests}
use Rattle.std.proofs.lemmas.List.{set-set, set-get_or, get_or-set_same}
use Rattle.std.proofs.lemmas.Option.{slice_get-get_or}
use Rattle.cap_model.specs.values.CapValue.{CapValue}
use Rattle.cheri_model.specs.runs.Image.{ImageParts}
use Rattle.cheri_model.specs.runs.Machine.{MachineState, opening_state, hart_at, no_hart, is_running, may_take, state_after_step}
use Rattle.cheri_model.specs.steps.Hart.{HartState}
use Rattle.cheri_model.specs.steps.HartStep.{hart_step}
use Rattle.explore_turns.proofs.TurnLemmas.{same_state}
use Rattle.graph_merging.proofs.MergingLemmas.{walk_on}
use Rattle.graph_search.specs.Walks.{IsWalk}
use Rattle.own_granules.specs.Granules.{is_quiet}
use Rattle.own_granules.specs.Orders.{rest_labels, turn_labels}
use Rattle.own_granules.specs.Rests.{come}
use Rattle.own_granules.specs.Turns.{come_with, is_quiet_with, order_of_turns, placed, rest_of, start, turn}
use Rattle.own_granules.proofs.OrderLemmas.{all_still, first_walk, turn_walk}
use Rattle.own_granules.proofs.OwnLemmas.{quiet_edge}
use Rattle.own_granules.proofs.WayLemmas.{come_on, come_none, come_stop}
use Rattle.schedules.specs.declared.ranges.SweepRange.{SweepRange}
use Rattle.schedules.specs.Schedules.{next}

module _ (image : ImageParts) (sweeps : List SweepRange) (shared : ℕ → Bool)
    (hides : HartState → HartState → Bool) where
  abbrev step : MachineState → ℕ → MachineState
  step s l = state_after_step image s l

  abbrev quiet : MachineState → ℕ → Bool
  quiet s l = is_quiet image sweeps shared hides s l

  -- a hart that doesn't run isn't quiet
  stopped_still : (s : MachineState) →
      ((l : ℕ) (h : HartState) → slice_get s.harts l ≡ Some h → is_running h.status ≡ false) →
      (l : ℕ) → quiet s l ≡ false
  unfolding is_quiet may_take hart_at
  stopped_still s stopped l = elim (cases_lt l (length s.harts)) [
    | inl low ↦
        let none = stopped l (hart_at s l) (slice_get-get_or s.harts l no_hart low) in
        let below : nat_lt l (length s.harts) ≡ true = lt-ltb l (length s.harts) low in
        rw (below, none) refl
    | inr past ↦
        let beyond : nat_lt l (length s.harts) ≡ false = grind (arith, nat_tests) in
        rw beyond refl
  ]

  pub stopped_rest : (most : ℕ) (s : MachineState) →
      ((l : ℕ) (h : HartState) → slice_get s.harts l ≡ Some h → is_running h.status ≡ false) →
      rest_of image sweeps shared hides most s ≡ s
  stopped_rest most s stopped = all_still step quiet most (length image.harts) s (stopped_still s stopped)

  pub order_leads : (most : ℕ) (labels : List ℕ) (r : MachineState) →
      IsWalk (turn image sweeps shared hides most) (start image sweeps shared hides most) labels r →
      IsWalk (next image sweeps) (opening_state image) (order_of_turns image sweeps shared hides most labels) r
  order_leads most labels r walk =
      let n = length image.harts in
      let o = opening_state image in
      let own = quiet_edge image sweeps shared (λ granule. None) hides most in
      walk_on (next image sweeps) o (start image sweeps shared hides most) r (rest_labels step quiet most n o)
      (turn_labels (next image sweeps) step quiet most n (start image sweeps shared hides most) labels)
      (first_walk step quiet most (next image sweeps) n own n o (omega arith))
      (turn_walk step quiet most (next image sweeps) n own (start image sweeps shared hides most) r labels walk)

  -- quiet steps by the hart and memory alone
  same_quiet : (s : MachineState) (l : ℕ) → l < length s.harts →
      quiet s l ≡ is_quiet_with image sweeps shared hides (hart_at s l) s.memory
  unfolding is_quiet is_quiet_with may_take
  same_quiet s l low = let below : nat_lt l (length s.harts) ≡ true = lt-ltb l (length s.harts) low in rw below refl

  own_place : (s : MachineState) (l : ℕ) → placed s l (hart_at s l, s.memory) ≡ s
  unfolding hart_at
  own_place s l =
      same_state (set s.harts l (hart_at s l)) s.harts s.memory s.memory (set-get_or s.harts l no_hart) refl

  with_on : (k : ℕ) (h : HartState) (m : List CapValue) → is_quiet_with image sweeps shared hides h m ≡ true →
      come_with image sweeps shared hides (suc k) h m
      ≡ come_with image sweeps shared hides k (hart_step image.program h m).hart (hart_step image.program h m).memory
  unfolding come_with
  with_on k h m holds = rw holds

  with_none : (h : HartState) (m : List CapValue) → is_quiet_with image sweeps shared hides h m ≡ true →
      come_with image sweeps shared hides 0 h m ≡ None
  unfolding come_with
  with_none h m holds = rw holds

  with_stop : (k : ℕ) (h : HartState) (m : List CapValue) → is_quiet_with image sweeps shared hides h m ≡ false →
      come_with image sweeps shared hides k h m ≡ Some (h, m)
  unfolding come_with
  with_stop zero h m fails = rw fails
  with_stop (suc k) h m fails = rw fails

  hart_after : (s : MachineState) (l : ℕ) → l < length s.harts →
      hart_at (step s l) l ≡ (hart_step image.program (hart_at s l) s.memory).hart
  unfolding hart_at state_after_step
  hart_after s l low = get_or-set_same s.harts l (hart_step image.program (hart_at s l) s.memory).hart no_hart low

  memory_after : (s : MachineState) (l : ℕ) →
      (step s l).memory ≡ (hart_step image.program (hart_at s l) s.memory).memory
  unfolding state_after_step
  memory_after s l = refl

  placed_twice : (s : MachineState) (l : ℕ) (held : HartState × List CapValue) →
      placed (step s l) l held ≡ placed s l held
  unfolding state_after_step
  placed_twice s l held =
      same_state (set (step s l).harts l held.0) (set s.harts l held.0) held.1 held.1
      (set-set s.harts l (hart_step image.program (hart_at s l) s.memory).hart held.0) refl

  placed_all : (s : MachineState) (l : ℕ) (o : Option (HartState × List CapValue)) →
      option_map (placed (step s l) l) o ≡ option_map (placed s l) o
  placed_all s l None = refl
  placed_all s l (Some held) = ap (λ (x : MachineState). Some x) (placed_twice s l held)

  size_after : (s : MachineState) (l : ℕ) → length (step s l).harts ≡ length s.harts
  unfolding state_after_step
  size_after s l = length-set s.harts l (hart_step image.program (hart_at s l) s.memory).hart

  here : (s : MachineState) (l k : ℕ) → is_quiet_with image sweeps shared hides (hart_at s l) s.memory ≡ false →
      Some s ≡ option_map (placed s l) (come_with image sweeps shared hides k (hart_at s l) s.memory)
  here s l k fails =
      ap (λ (x : MachineState). Some x) (sym (own_place s l))
      ∙ sym (ap (option_map (placed s l)) (with_stop k (hart_at s l) s.memory fails))

  pub same_come : (k l : ℕ) (s : MachineState) → l < length s.harts →
      come step quiet l k s ≡ option_map (placed s l) (come_with image sweeps shared hides k (hart_at s l) s.memory)
  same_come zero l s low =
      let same = same_quiet s l low in
      elim (cases_Bool (quiet s l)) [
        | inl holds ↦
            come_none step quiet l s holds
            ∙ sym (ap (option_map (placed s l)) (with_none (hart_at s l) s.memory (sym same ∙ holds)))
        | inr fails ↦ come_stop step quiet l 0 s fails ∙ here s l 0 (sym same ∙ fails)
      ]
  same_come (suc k) l s low =
      let same = same_quiet s l low in
      let h = hart_at s l in
      let to = hart_step image.program h s.memory in
      elim (cases_Bool (quiet s l)) [
        | inl holds ↦
            let size = size_after s l in
            let tail = same_come k l (step s l) (omega (arith, low, size)) in
            come_on step quiet l k s holds
            ∙ (tail ∙ (placed_all s l (come_with image sweeps shared hides k (hart_at (step s l) l) (step s l).memory)
            ∙ ap (option_map (placed s l)) (
            ap (λ (x : HartState). come_with image sweeps shared hides k x (step s l).memory) (hart_after s l low)
            ∙ (ap (λ (x : List CapValue). come_with image sweeps shared hides k to.hart x) (memory_after s l)
            ∙ sym (with_on k h s.memory (sym same ∙ holds))))))
        | inr fails ↦ come_stop step quiet l (suc k) s fails ∙ here s l (suc k) (sym same ∙ fails)
      ]
