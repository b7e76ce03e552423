-- What harts have forgotten makes no difference to quiet steps of states, to edges, to turns and
-- to whether a step respects owners.
use Rattle.std.proofs.Common.{◌≡◌, ℕ, length, List, [], refl, sym, ap, ◌∙◌, inl, inr, subst}
use Rattle.std.specs.Prelude.{Bool, true, ◌&&◌, nat_lt, Option, Some, None, option_map, if◌then◌else◌}
use Rattle.std.proofs.lemmas.Bool.{cases_Bool, and_parts}
use Rattle.std.proofs.lemmas.Option.{none-some, same_Some}
use Rattle.cap_model.specs.values.CapValue.{CapValue}
use Rattle.cheri_model.specs.declared.operation.Op.{Op}
use Rattle.cheri_model.specs.declared.operation.Op.TheVariants as operation
use Rattle.cheri_model.specs.runs.Image.{ImageParts}
use Rattle.cheri_model.specs.runs.Machine.{MachineState, hart_at, is_running, may_take, state_after_one, state_after_step}
use Rattle.cheri_model.specs.steps.Hart.{HartState}
use Rattle.cheri_model.specs.steps.HartStep.{hart_step}
use Rattle.explore_sights.specs.declared.sights.Sight.{Sight}
use Rattle.explore_sights.specs.Sights.{hides}
use Rattle.explore_turns.specs.declared.quiet.TheConstants.{MAX_QUIET_STEPS}
use Rattle.forgotten_runs.specs.ForgottenRuns.{forgotten_state, forgotten_after}
use Rattle.forgotten_runs.proofs.OperationLemmas.{after_forgets, hart_kept, may_kept, memory_kept}
use Rattle.forgotten_turns.specs.ForgottenTurns.{HidesForgotten}
use Rattle.live_registers.specs.LiveSets.{IsRight, LiveSets, forgotten_hart}
use Rattle.live_registers.proofs.ForgettingLemmas.{forgets_hart, forgotten_twice}
use Rattle.own_granules.specs.Granules.{is_private, is_quiet, respects, respects_in}
use Rattle.own_granules.specs.Rests.{rest_after}
use Rattle.own_granules.proofs.KeptLemmas.{none_left}
use Rattle.schedules.specs.Schedules.{next, operation_of_label, taken}
use Rattle.schedules.proofs.WalkLemmas.{next_some}
use Rattle.owned_turns.specs.OwnedTurns.{owned_turn}
use Rattle.owned_turns.proofs.AccessLemmas.{same_private, same_respects}
use Rattle.owned_turns.proofs.RestLemmas.{Forgets, after_alike}
use Rattle.owned_turns.proofs.WalkLemmas.{maps_alike}

runs_there : (s : MachineState) (l : ℕ) → may_take s (operation.Step l) ≡ true → is_running (hart_at s l).status ≡ true
unfolding may_take
runs_there s l may = (and_parts (nat_lt l (length s.harts)) (is_running (hart_at s l).status) may).1

module _ (image : ImageParts) (live : LiveSets) (right : IsRight image.program live) where
  abbrev forget : MachineState → MachineState
  forget s = forgotten_state live s

  abbrev lose : HartState → HartState
  lose h = forgotten_hart live h

  abbrev after_own : HartState → List CapValue → HartState
  after_own h m = (hart_step image.program h m).hart

  one_forgets : (s : MachineState) (op : Op) → may_take s op ≡ true →
      forget (state_after_one image (forget s) op) ≡ forget (state_after_one image s op)
  unfolding forgotten_after
  one_forgets s op may = after_forgets live image right s op may

  -- ---- quiet steps

  module _ (shared : ℕ → Bool) (unseen : HartState → HartState → Bool) (hidden : HidesForgotten live unseen) where
    -- what is seen of the step that follows
    same_hidden : (h : HartState) (m : List CapValue) → is_running h.status ≡ true →
        unseen (lose h) (after_own (lose h) m) ≡ unseen h (after_own h m)
    same_hidden h m runs =
        sym (hidden (lose h) (after_own (lose h) m))
        ∙ (ap (λ (g : HartState). unseen g (lose (after_own (lose h) m))) (forgotten_twice live h)
        ∙ (ap (unseen (lose h)) (forgets_hart image.program live h m right runs) ∙ hidden h (after_own h m)))

    -- a quiet step of this hart, where it may be taken
    abbrev quiet_by : HartState → List CapValue → Bool
    quiet_by h m = is_private image shared h && unseen h (after_own h m)

    same_by : (h : HartState) (m : List CapValue) → is_running h.status ≡ true → quiet_by (lose h) m ≡ quiet_by h m
    same_by h m runs =
        ap (λ (b : Bool). b && unseen (lose h) (after_own (lose h) m)) (same_private image live right h runs shared)
        ∙ ap (λ (b : Bool). is_private image shared h && b) (same_hidden h m runs)

    pub quiet_forgets : (s : MachineState) (l : ℕ) →
        is_quiet image [] shared unseen (forget s) l ≡ is_quiet image [] shared unseen s l
    unfolding is_quiet
    quiet_forgets s l =
        ap (λ (may : Bool). may && quiet_by (hart_at (forget s) l) (forget s).memory) (may_kept live s (operation.Step l))
        ∙ (ap (λ (h : HartState). may_take s (operation.Step l) && quiet_by h (forget s).memory) (hart_kept live s l)
        ∙ (ap (λ (m : List CapValue). may_take s (operation.Step l) && quiet_by (lose (hart_at s l)) m) (memory_kept live s)
        ∙ elim (cases_Bool (may_take s (operation.Step l))) [
          | inl may ↦
              ap (λ (b : Bool). may_take s (operation.Step l) && b)
              (same_by (hart_at s l) s.memory (runs_there s l may))
          | inr stops ↦ rw stops refl
        ]))

    pub quiet_may : (s : MachineState) (l : ℕ) → is_quiet image [] shared unseen s l ≡ true →
        may_take s (operation.Step l) ≡ true
    unfolding is_quiet
    quiet_may s l quiet =
        (and_parts (may_take s (operation.Step l)) (quiet_by (hart_at s l) s.memory) quiet).0

    step_forgets : (s : MachineState) (l : ℕ) → may_take s (operation.Step l) ≡ true →
        forget (state_after_step image (forget s) l) ≡ forget (state_after_step image s l)
    unfolding state_after_one
    step_forgets s l may = one_forgets s (operation.Step l) may

    pub state_forgets :
        Forgets (state_after_step image) (is_quiet image [] shared unseen) (forgotten_state live)
    state_forgets = record {
      quiets = quiet_forgets;
      steps = λ s l quiet. step_forgets s l (quiet_may s l quiet);
    }

  -- ---- edges

  taken_forgets : (s : MachineState) (o : Option Op) →
      option_map (forgotten_state live) (taken image (forget s) o) ≡ option_map (forgotten_state live) (taken image s o)
  unfolding taken
  taken_forgets s None = refl
  taken_forgets s (Some op) =
      let before = state_after_one image (forget s) op in
      let behind = state_after_one image s op in
      ap (λ (b : Bool). option_map (forgotten_state live) (if b then Some before else None)) (may_kept live s op)
      ∙ elim (cases_Bool (may_take s op)) [
        | inl may ↦ rw may (ap (λ (t : MachineState). Some t) (one_forgets s op may))
        | inr refused ↦ rw refused refl
      ]

  pub edge_forgets : (s : MachineState) (l : ℕ) →
      option_map (forgotten_state live) (next image [] (forget s) l)
      ≡ option_map (forgotten_state live) (next image [] s l)
  unfolding next
  edge_forgets s l = taken_forgets s (operation_of_label image [] l)

  -- ---- turns

  pub turn_forgets : (shared : ℕ → Bool) (sight : Sight) → HidesForgotten live (hides sight) →
      (s : MachineState) (l : ℕ) → owned_turn image shared sight live (forget s) l ≡ owned_turn image shared sight live s l
  turn_forgets shared sight hidden s l =
      let n = length image.harts in
      maps_alike (forgotten_state live)
      (rest_after (state_after_step image) (is_quiet image [] shared (hides sight)) MAX_QUIET_STEPS n l)
      (after_alike (state_after_step image) (is_quiet image [] shared (hides sight)) (forgotten_state live)
      (state_forgets shared (hides sight) hidden) MAX_QUIET_STEPS n l)
      (next image [] (forget s) l) (next image [] s l) (edge_forgets s l)

  -- ---- owners

  pub respects_forgets : (shared : ℕ → Bool) (owner : ℕ → Option ℕ) (s : MachineState) (l : ℕ) →
      may_take s (operation.Step l) ≡ true →
      respects_in image [] shared owner (forget s) l ≡ respects_in image [] shared owner s l
  respects_forgets shared owner s l may =
      none_left image shared owner (forget s) l
      ∙ (ap (λ (h : HartState). respects image shared owner l h) (hart_kept live s l)
      ∙ (same_respects image live right (hart_at s l) (runs_there s l may) shared owner l
      ∙ sym (none_left image shared owner s l)))

-- an edge is a step, where there are no sweeps
pub edge_may : (image : ImageParts) (s t : MachineState) (l : ℕ) → next image [] s l ≡ Some t →
    may_take s (operation.Step l) ≡ true
unfolding operation_of_label
edge_may image s t l goes =
    let found = next_some image [] s t l goes in
    elim (cases_Bool (nat_lt l (length image.harts))) [
      | inl low ↦
          let is : Some (operation.Step l) ≡ Some found.0 = rw low at found.1 in
          subst (λ (op : Op). may_take s op ≡ true) (sym (same_Some (operation.Step l) found.0 is)) found.2
      | inr past ↦
          let none : None ≡ Some found.0 = rw past at found.1 in absurd (none-some found.0 none)
    ]
