-- When the step of a hart is quiet, where there are no sweeps.
use Rattle.std.proofs.Common.{◌≡◌, ℕ, ◌<◌, [], length, refl, nat_lt, subst}
use Rattle.std.specs.Prelude.{Bool, true, false, not, ◌&&◌, ◌||◌, Some}
use Rattle.std.proofs.lemmas.Bool.{lt-ltb}
use Rattle.std.proofs.lemmas.List.{get_or-set_same}
use Rattle.cheri_model.specs.declared.operation.Op.TheVariants as operation
use Rattle.cheri_model.specs.runs.Image.{ImageParts}
use Rattle.cheri_model.specs.runs.Machine.{MachineState, hart_at, is_running, may_take, no_hart, state_after_one, state_after_step, stepped}
use Rattle.cheri_model.specs.steps.Hart.{HartState}
use Rattle.explore_turns.specs.QuietSteps.{asks_memory}
use Rattle.own_granules.specs.Granules.{granule_of, is_private, is_quiet}
use Rattle.schedules.proofs.WalkLemmas.{label_of_step, some_next}
use Rattle.schedules.specs.Schedules.{next}
use Rattle.granule_states.specs.Accesses.{IsAsked}
use Rattle.granule_states.specs.declared.accesses.Access.{Access}

module _ (image : ImageParts) (shared : ℕ → Bool) (hides : HartState → HartState → Bool) (s : MachineState) (l : ℕ) where
  abbrev h : HartState
  h = hart_at s l

  -- a hart that doesn't run has no quiet step
  pub stopped_still : is_running h.status ≡ false → is_quiet image [] shared hides s l ≡ false
  unfolding is_quiet may_take
  stopped_still stops = stops_is (nat_lt l (length s.harts)) where
    stops_is : (b : Bool) → (b && is_running h.status) && (is_private image shared h && (hides h (stepped image s l).hart)) ≡ false
    stops_is true = rw stops refl
    stops_is false = refl

  -- nor one that asks for an access to a shared granule
  pub shared_still : (access : Access) → IsAsked image h access → access.asks && shared access.granule ≡ true →
      is_quiet image [] shared hides s l ≡ false
  unfolding is_quiet is_private
  shared_still access asked holds =
      let here : asks_memory image.program h && shared (granule_of image h) ≡ true =
      subst (λ (b : Bool). b && shared (granule_of image h) ≡ true) asked.asks
      (subst (λ (g : ℕ). access.asks && shared g ≡ true) asked.granule holds) in
      closed (asks_memory image.program h) (shared (granule_of image h)) (may_take s (operation.Step l)) here where
        closed : (a b c : Bool) → a && b ≡ true → c && ((not a || not b) && hides h (stepped image s l).hart) ≡ false
        closed true true true both = refl
        closed true true false both = refl
        closed true false c both = absurd (cc)
        closed false b c both = absurd (cc)

  -- of another that runs the question decides
  pub private_quiet : (access : Access) → l < length s.harts → IsAsked image h access → access.asks && shared access.granule ≡ false →
      is_quiet image [] shared hides s l ≡ hides h (stepped image s l).hart
  unfolding is_quiet is_private may_take
  private_quiet access low asked fails =
      let below : nat_lt l (length s.harts) ≡ true = lt-ltb l (length s.harts) low in
      let here : asks_memory image.program h && shared (granule_of image h) ≡ false =
      subst (λ (b : Bool). b && shared (granule_of image h) ≡ false) asked.asks
      (subst (λ (g : ℕ). access.asks && shared g ≡ false) asked.granule fails) in
      clear (asks_memory image.program h) (shared (granule_of image h)) (nat_lt l (length s.harts)) (is_running h.status) below asked.runs here where
        clear : (a b c d : Bool) → c ≡ true → d ≡ true → a && b ≡ false →
            (c && d) && ((not a || not b) && hides h (stepped image s l).hart) ≡ hides h (stepped image s l).hart
        clear a b false d low runs none = absurd (cc)
        clear a b true false low runs none = absurd (cc)
        clear true true true true low runs none = absurd (cc)
        clear true false true true low runs none = refl
        clear false b true true low runs none = refl

  -- a hart that runs has a step
  pub runs_on : l < length s.harts → l < length image.harts → is_running h.status ≡ true →
      next image [] s l ≡ Some (state_after_step image s l)
  unfolding may_take state_after_one
  runs_on low there runs =
      let below : nat_lt l (length s.harts) ≡ true = lt-ltb l (length s.harts) low in
      some_next image [] s l (operation.Step l) (label_of_step image [] l there) (rw (below, runs) refl)

  pub hart_after : l < length s.harts → hart_at (state_after_step image s l) l ≡ (stepped image s l).hart
  unfolding hart_at state_after_step
  hart_after low = get_or-set_same s.harts l (stepped image s l).hart no_hart low
