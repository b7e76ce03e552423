-- Operations and runs: what is in each place of the machine is made of what its origin held at the start.
use Rattle.std.proofs.Common.{◌≡◌, ℕ, ◌==◌, ◌≤◌, true, false, List, [], ◌∷◌, ◌++◌, refl, sym, ap, subst, ◌∙◌, arith, inl, inr, eqb-true}
use Rattle.std.specs.Prelude.{if◌then◌else◌, All, Contains, ⊤}
use Rattle.std.proofs.lemmas.Bool.{cases_Bool}
use Rattle.std.proofs.lemmas.List.Elements.{All-nil, All-contains_itself}
use Rattle.cheri_model.specs.declared.operation.Op.{Op}
use Rattle.cheri_model.specs.declared.operation.Op.TheVariants as operation
use Rattle.cap_model.specs.values.Capability.{Capability, last_sealable_type}
use Rattle.cap_model.specs.values.CapValue.{CapValue, valid, raw, IsLawfulValue}
use Rattle.cap_model.specs.results.Swept.{swept}
use Rattle.cheri_model.specs.steps.Memory.{granule_at}
use Rattle.cheri_model.specs.steps.Hart.{HartState, null, register}
use Rattle.cheri_model.specs.steps.HartStep.{hart_step}
use Rattle.cheri_model.specs.runs.Image.{ImageParts}
use Rattle.cheri_model.specs.runs.Sweeps.{swept_hart, swept_memory}
use Rattle.cheri_model.specs.runs.Machine.{MachineState, opening_state, no_hart, hart_at, state_after_step, swept_state, state_after_one}
use Rattle.cheri_model.specs.runs.Replay.{state_after, replayed_state}
use Rattle.cheri_model.specs.runs.Authority.{EachOfHart, EachOfState, IsLawfulState, IsGrantedValue, values_of_image}
use Rattle.cheri_model.proofs.Runs.RunsConfined.{opening_each, run_lawful}
use Rattle.cheri_model.proofs.Runs.Replays.{state_after_push}
use Rattle.origins.specs.declared.place.Spot.{Spot}
use Rattle.origins.specs.declared.place.Spot.TheVariants.{Pcc, Register, Granule}
use Rattle.origins.specs.declared.place.Place.{Place}
use Rattle.origins.specs.declared.place.Place.TheVariants.{PccOf, RegisterOf, GranuleOf}
use Rattle.origins.specs.declared.place.Flow.{Flow}
use Rattle.origins.specs.Places.{value_at_spot, value_in, place_of}
use Rattle.origins.specs.Flows.{step_flows, source_of}
use Rattle.origins.specs.Origins.{before_in, before_flows, came_from, Origins, origins_after, replayed_origins}
use Rattle.origins.specs.OriginLaw.{IsOf, IsFrom, HasOrigin}
use Rattle.origins.proofs.Made.{IsOf-itself, IsOf-through, IsOf-swept}
use Rattle.origins.proofs.Writes.{at_each, at_map, at_set}
use Rattle.origins.proofs.StepOrigins.{step_from}

-- what holds of null and of each value of a state holds in each place
in_place : (P : CapValue → Type 0) (state : MachineState) → P null → EachOfState P state → (place : Place) → P (value_in state place)
unfolding hart_at register granule_at
in_place P state of_null each place = elim place as (λ p. P (value_in state p)) [
  | PccOf hart ↦ (here hart).pcc
  | RegisterOf hart number ↦ at_each P (hart_at state hart).regs number null of_null (here hart).regs
  | GranuleOf number ↦ at_each P state.memory number null of_null each.memory
]
  where
    here : (hart : ℕ) → EachOfHart P (hart_at state hart)
    here hart = at_each (EachOfHart P) state.harts hart no_hart record { pcc = of_null; regs = All-nil P } each.harts

-- what a hart names so is in this place
value_of_spot : (state : MachineState) (number : ℕ) (spot : Spot) →
    value_in state (place_of number spot) ≡ value_at_spot (hart_at state number) state.memory spot
value_of_spot state number Pcc = refl
value_of_spot state number (Register n) = refl
value_of_spot state number (Granule k) = refl

module _ (image : ImageParts) (state : MachineState) where
  -- ---- a step

  lawful_at : (number : ℕ) → IsLawfulState state → EachOfHart IsLawfulValue (hart_at state number)
  unfolding hart_at
  lawful_at number lawful =
      at_each (EachOfHart IsLawfulValue) state.harts number no_hart
      record { pcc = omega arith; regs = All-nil IsLawfulValue } lawful.harts

  -- what the step of a hart leaves in a place that it names
  own_place : (number : ℕ) (spot : Spot) → IsLawfulState state →
      let after = hart_step image.program (hart_at state number) state.memory in
      IsOf (value_at_spot after.hart after.memory spot)
      (value_in state (place_of number (source_of (step_flows image.program (hart_at state number) state.memory) spot)))
  own_place number spot lawful =
      rw (value_of_spot state number (source_of (step_flows image.program (hart_at state number) state.memory) spot))
      (step_from (hart_at state number) state.memory image.program spot (lawful_at number lawful))

  -- a place of a hart, whichever one steps
  hart_place : (number hart : ℕ) (spot : Spot) (now : HartState → CapValue) → IsLawfulState state →
      IsOf (now no_hart) (value_in state (before_in number (step_flows image.program (hart_at state number) state.memory) hart spot)) →
      (now (hart_step image.program (hart_at state number) state.memory).hart
      ≡ value_at_spot (hart_step image.program (hart_at state number) state.memory).hart
      (hart_step image.program (hart_at state number) state.memory).memory spot) →
      now (hart_at state hart) ≡ value_in state (place_of hart spot) →
      IsOf (now (hart_at (state_after_step image state number) hart))
      (value_in state (before_in number (step_flows image.program (hart_at state number) state.memory) hart spot))
  unfolding state_after_step hart_at
  hart_place number hart spot now lawful past here elsewhere =
      let flows = step_flows image.program (hart_at state number) state.memory in
      at_set (λ h. IsOf (now h) (value_in state (before_in number flows hart spot))) state.harts number hart _ no_hart past
      (λ same. rw (same, here) (own_place number spot lawful))
      (λ other. rw (other, elsewhere) (IsOf-itself (value_in state (place_of hart spot))))

  step_origin : (number : ℕ) (place : Place) → IsLawfulState state →
      IsOf (value_in (state_after_step image state number) place)
      (value_in state (before_flows number (step_flows image.program (hart_at state number) state.memory) place))
  unfolding before_flows register state_after_step
  step_origin number (PccOf hart) lawful = hart_place number hart Pcc (λ h. h.pcc) lawful tt refl refl
  step_origin number (RegisterOf hart n) lawful =
      hart_place number hart (Register n) (λ h. register h n) lawful tt refl refl
  step_origin number (GranuleOf k) lawful = own_place number (Granule k) lawful

  -- ---- a sweep

  swept_place : (lo hi : ℕ) (place : Place) → IsOf (value_in (swept_state lo hi state) place) (value_in state place)
  unfolding swept_state swept_hart swept_memory hart_at register granule_at
  swept_place lo hi (PccOf hart) =
      at_map (λ h. IsOf h.pcc (hart_at state hart).pcc) (swept_hart lo hi) state.harts hart no_hart tt (IsOf-swept lo hi _)
  swept_place lo hi (RegisterOf hart n) =
      at_map (λ h. IsOf (register h n) (register (hart_at state hart) n)) (swept_hart lo hi) state.harts hart no_hart tt
      (at_map (λ v. IsOf v (register (hart_at state hart) n)) (swept lo hi) (hart_at state hart).regs n null tt (IsOf-swept lo hi _))
  swept_place lo hi (GranuleOf k) =
      at_map (λ v. IsOf v (granule_at state.memory k)) (swept lo hi) state.memory k null tt (IsOf-swept lo hi _)

  pub operation_from : (op : Op) → IsLawfulState state → IsFrom state (came_from image state op) (state_after_one image state op)
  unfolding came_from state_after_one
  operation_from (operation.Step number) lawful = record { each = λ place. step_origin number place lawful }
  operation_from (operation.Sweep lo hi) lawful = record { each = λ place. swept_place lo hi place }

-- ---- runs

module _ (image : ImageParts) where
  -- the origins that another start names, after one more operation and after an order
  origins_after-append : (state : MachineState) (origins : Origins) (order : List Op) (op : Op) (place : Place) →
      origins_after image state origins (order ++ op ∷ []) place
      ≡ origins_after image state origins order (came_from image (state_after image state order) op place)
  unfolding origins_after state_after
  origins_after-append state origins [] op place = refl
  origins_after-append state origins (first ∷ order) op place =
      origins_after-append (state_after_one image state first) (λ p. origins (came_from image state first p)) order op place

  pub origins_push : (order : List Op) (op : Op) (place : Place) →
      replayed_origins image (order ++ op ∷ []) place
      ≡ replayed_origins image order (came_from image (replayed_state image order) op place)
  unfolding replayed_origins replayed_state
  origins_push order op place = origins_after-append (opening_state image) (λ p. p) order op place

  pub origins_none : (place : Place) → replayed_origins image [] place ≡ place
  unfolding replayed_origins origins_after
  origins_none place = refl

  -- an order after another, whose states are replays and so lawful
  run_from : IsLawfulState (opening_state image) → (start : MachineState) (origins : Origins) (before order : List Op) →
      IsFrom start origins (replayed_state image before) →
      IsFrom start (origins_after image (replayed_state image before) origins order) (state_after image (replayed_state image before) order)
  unfolding origins_after state_after replayed_state
  run_from lawful start origins before [] from = from
  run_from lawful start origins before (op ∷ order) from =
      let state = replayed_state image before in
      let one = operation_from image state op (run_lawful image before lawful).0 in
      let more : IsFrom start (λ p. origins (came_from image state op p)) (state_after_one image state op) =
      record { each = λ place. IsOf-through _ _ _ (one.each place) (from.each (came_from image state op place)) } in
      let is = state_after_push image (opening_state image) before op in
      subst (λ s. IsFrom start (origins_after image s (λ p. origins (came_from image state op p)) order) (state_after image s order)) is
      (run_from lawful start (λ p. origins (came_from image state op p)) (before ++ op ∷ []) order
      (subst (IsFrom start (λ p. origins (came_from image state op p))) (sym is) more))

  replay_from : IsLawfulState (opening_state image) → (order : List Op) →
      IsFrom (opening_state image) (replayed_origins image order) (replayed_state image order)
  unfolding replayed_origins replayed_state state_after
  replay_from lawful order =
      run_from lawful (opening_state image) (λ p. p) [] order record { each = λ place. IsOf-itself (value_in (opening_state image) place) }

  -- a tagged value of the opening state is one of the image's
  abbrev IsInitial : CapValue → Type 0
  IsInitial (valid c) = Contains (values_of_image image) (valid c)
  IsInitial (raw word) = ⊤

  is_initial : (v : CapValue) → Contains (values_of_image image) v → IsInitial v
  is_initial (valid c) held = held
  is_initial (raw word) held = tt

  initial_in : (place : Place) → IsInitial (value_in (opening_state image) place)
  initial_in place =
      in_place IsInitial (opening_state image) tt
      (opening_each IsInitial tt image (λ k d inside. is_initial _ (All-contains_itself (values_of_image image) k d inside))) place

  -- a tagged value made of a value has an origin there
  origin_of : (order : List Op) (place : Place) (c : Capability) (initial : CapValue) →
      value_in (opening_state image) (replayed_origins image order place) ≡ initial → IsOf (valid c) initial → IsInitial initial →
      IsGrantedValue (values_of_image image) (valid c) → HasOrigin image order place c
  origin_of order place c (raw word) named made held granted = absurd made
  origin_of order place c (valid d) named made held granted =
      record { initial = d; named = named; within = made; held = held; sealed = granted.sealed }

  pub has_origin : (order : List Op) (place : Place) (c : Capability) → IsLawfulState (opening_state image) →
      value_in (replayed_state image order) place ≡ valid c → HasOrigin image order place c
  has_origin order place c lawful is =
      let origin = replayed_origins image order place in
      let granted = in_place (IsGrantedValue (values_of_image image)) (replayed_state image order) tt (run_lawful image order lawful).1 place in
      origin_of order place c (value_in (opening_state image) origin) refl
      (subst (λ v. IsOf v (value_in (opening_state image) origin)) is ((replay_from lawful order).each place))
      (initial_in origin) (subst (IsGrantedValue (values_of_image image)) is granted)
