-- Steps, sweeps and turns of states whose harts stand in another order.
use Rattle.std.proofs.Common.{◌≡◌, ℕ, ◌<◌, ◌≤◌, length, map, set, List, [], refl, sym, ap, ◌∙◌, subst, inl, inr, arith}
use Rattle.std.specs.Prelude.{Bool, true, nat_lt, Option, Some}
use Rattle.std.proofs.lemmas.Bool.{and_parts, and_from, cases_Bool, eqb-true, eq-eqb, lt-ltb}
use Rattle.std.proofs.lemmas.Bool.Decides.{nat_tests}
use Rattle.std.proofs.lemmas.List.{length-map}
use Rattle.std.proofs.lemmas.Option.{same_Some}
use Rattle.cap_model.specs.results.Swept.{swept}
use Rattle.cap_model.specs.values.CapValue.{CapValue}
use Rattle.cheri_model.specs.declared.operation.Op.{Op}
use Rattle.cheri_model.specs.declared.operation.Op.TheVariants as operation
use Rattle.cheri_model.specs.runs.Image.{ImageParts}
use Rattle.cheri_model.specs.runs.Machine.{MachineState, hart_at, no_hart, is_running, may_take, state_after_one}
use Rattle.cheri_model.specs.runs.Machine.{state_after_step, swept_state}
use Rattle.cheri_model.specs.runs.Sweeps.{swept_hart, swept_memory}
use Rattle.cheri_model.specs.steps.Hart.{HartState}
use Rattle.cheri_model.specs.steps.HartStep.{Stepped, hart_step}
use Rattle.explore_sights.specs.declared.sights.Sight.{Sight}
use Rattle.explore_sights.specs.Sights.{hides}
use Rattle.explore_turns.specs.declared.quiet.TheConstants.{MAX_QUIET_STEPS}
use Rattle.explore_turns.specs.QuietSteps.{rest}
use Rattle.explore_turns.specs.Turns.{has_harts_of, rest_of, turn_by}
use Rattle.explore_turns.proofs.RestLemmas.{rest_stopped}
use Rattle.forgotten_runs.specs.ForgottenRuns.{forgotten_state}
use Rattle.forgotten_turns.specs.ForgottenTurns.{forgotten_turn}
use Rattle.graph_merging.specs.Merging.{merged}
use Rattle.graph_merging.proofs.MergingLemmas.{merged_some, some_merged}
use Rattle.live_registers.specs.RegisterSets.{forgotten, kept}
use Rattle.live_registers.specs.LiveSets.{LiveSets, forgotten_hart}
use Rattle.schedules.specs.declared.ranges.SweepRange.{SweepRange}
use Rattle.schedules.specs.Schedules.{next, operation_of_label}
use Rattle.schedules.proofs.WalkLemmas.{next_some, some_next, same_harts, step_hart, label_of_step, step_label}
use Rattle.hart_symmetry.specs.Renaming.{IsRenamed, IsRenaming}
use Rattle.hart_symmetry.specs.Symmetry.{IsSymmetry}
use Rattle.hart_symmetry.proofs.RenamingLemmas.{renamed_other, renamed_mapped, renamed_set, renaming_itself}
use Rattle.hart_symmetry.proofs.RenamingLemmas.{renaming_other, renaming_third, inside_too}
use Rattle.hart_symmetry.proofs.SymmetryLemmas.{merged_symmetry}

module _ (image : ImageParts) where
  -- ---- as many harts

  as_many : (s : MachineState) → has_harts_of image s ≡ true → length s.harts ≡ length image.harts
  as_many s fit = eqb-true (length s.harts) (length image.harts) fit

  pub have_as_many : (s : MachineState) → length s.harts ≡ length image.harts → has_harts_of image s ≡ true
  have_as_many s same = eq-eqb (length s.harts) (length image.harts) same

  mapped_fits : (f : HartState → HartState) (s : MachineState) → has_harts_of image s ≡ true →
      has_harts_of image (record s { harts = map f s.harts }) ≡ true
  mapped_fits f s fit = have_as_many (record s { harts = map f s.harts }) (length-map s.harts f ∙ as_many s fit)

  pub rest_fits : (sweeps : List SweepRange) (hides : HartState → HartState → Bool) (most : ℕ) (s : MachineState) →
      has_harts_of image s ≡ true → has_harts_of image (rest_of image sweeps hides most s) ≡ true
  unfolding rest_of
  rest_fits sweeps hides most s fit = mapped_fits (rest image.program sweeps hides most) s fit

  pub forgotten_fits : (live : LiveSets) (s : MachineState) → has_harts_of image s ≡ true →
      has_harts_of image (forgotten_state live s) ≡ true
  unfolding forgotten_state
  forgotten_fits live s fit = mapped_fits (forgotten_hart live) s fit

module _ (image : ImageParts) (stays : ℕ → Bool) where
  abbrev Alike : MachineState → MachineState → Type 0
  Alike s t = IsRenaming stays s t

  abbrev made : List HartState → List CapValue → MachineState
  made harts memory = record { harts = harts; memory = memory }

  alike_fits : (s t : MachineState) → has_harts_of image s ≡ true → Alike s t → has_harts_of image t ≡ true
  alike_fits s t fit r = have_as_many image t (r.1.count ∙ as_many image s fit)

  -- ---- steps and sweeps

  module _ (p : ℕ → ℕ) (s t : MachineState) (r : IsRenamed stays p s t) where
    step_renames : (hart : ℕ) → hart < length t.harts →
        IsRenamed stays p (state_after_step image s (p hart)) (state_after_step image t hart)
    unfolding state_after_step
    step_renames hart low =
        let before = hart_step image.program (hart_at s (p hart)) s.memory in
        let same : hart_step image.program (hart_at t hart) t.memory ≡ before =
        ap (λ (h : HartState). hart_step image.program h t.memory) (r.harts hart)
        ∙ ap (λ (m : List CapValue). hart_step image.program (hart_at s (p hart)) m) r.memory in
        subst (λ (x : Stepped). IsRenamed stays p (made (set s.harts (p hart) before.hart) before.memory)
        (made (set t.harts hart x.hart) x.memory)) (sym same)
        (renamed_set stays p s t r hart before.hart before.memory low)

    may_too : (hart : ℕ) → may_take t (operation.Step hart) ≡ true → may_take s (operation.Step (p hart)) ≡ true
    unfolding may_take
    may_too hart may =
        let parts = and_parts (nat_lt hart (length t.harts)) (is_running (hart_at t hart).status) may in
        let low = inside_too stays p s t r hart (step_hart t hart may) in
        and_from (nat_lt (p hart) (length s.harts)) (is_running (hart_at s (p hart)).status)
        (lt-ltb (p hart) (length s.harts) low)
        (ap (λ (h : HartState). is_running h.status) (sym (r.harts hart)) ∙ parts.1)

    no_hart_swept : (lo hi : ℕ) → swept_hart lo hi no_hart ≡ no_hart
    unfolding swept_hart swept
    no_hart_swept lo hi = refl

    sweep_renames : (lo hi : ℕ) → IsRenamed stays p (swept_state lo hi s) (swept_state lo hi t)
    unfolding swept_state
    sweep_renames lo hi =
        renamed_mapped stays (swept_hart lo hi) (no_hart_swept lo hi) p s t (swept_memory lo hi s.memory)
        (swept_memory lo hi t.memory) (ap (swept_memory lo hi) r.memory) r

  module _ (sweeps : List SweepRange) where
    -- labels of sweeps come after those of all harts
    sweep_label : (l lo hi : ℕ) → operation_of_label image sweeps l ≡ Some (operation.Sweep lo hi) →
        length image.harts ≤ l
    unfolding operation_of_label
    sweep_label l lo hi is = elim (cases_Bool (nat_lt l (length image.harts))) [
      | inl low ↦
          let e : operation.Step l ≡ operation.Sweep lo hi =
          same_Some (operation.Step l) (operation.Sweep lo hi) (rw low at is) in
          absurd (cc)
      | inr high ↦ grind (arith, nat_tests)
    ]

    -- an edge of the state that another is with its harts in another order
    abbrev HasEdge : (ℕ → ℕ) → MachineState → ℕ → MachineState → Type 0
    HasEdge p s l y = (x : MachineState) × (next image sweeps s (p l) ≡ Some x) × IsRenamed stays p x y

    edge_of : (p : ℕ → ℕ) (s t : MachineState) (l : ℕ) (op : Op) → length s.harts ≡ length image.harts →
        IsRenamed stays p s t → operation_of_label image sweeps l ≡ Some op → may_take t op ≡ true →
        HasEdge p s l (state_after_one image t op)
    unfolding state_after_one may_take
    edge_of p s t l (operation.Step hart) fit r is may =
        let own = step_label image sweeps l hart is in
        let there : hart < length t.harts = step_hart t hart may in
        let low : p hart < length image.harts =
        subst (λ (k : ℕ). p hart < k) fit (inside_too stays p s t r hart there) in (
          state_after_step image s (p hart),
          ap (λ (k : ℕ). next image sweeps s (p k)) own.0
              ∙ some_next image sweeps s (p hart) (operation.Step (p hart)) (label_of_step image sweeps (p hart) low)
              (may_too p s t r hart may),
          step_renames p s t r hart there,
        )
    edge_of p s t l (operation.Sweep lo hi) fit r is may =
        let still : p l ≡ l =
        r.beyond l (subst (λ (k : ℕ). k ≤ l) (sym fit) (sweep_label l lo hi is)) in (
          swept_state lo hi s,
          ap (next image sweeps s) still ∙ some_next image sweeps s l (operation.Sweep lo hi) is may,
          sweep_renames p s t r lo hi,
        )

    pub steps_by : (p : ℕ → ℕ) (s t y : MachineState) (l : ℕ) → has_harts_of image s ≡ true → IsRenamed stays p s t →
        next image sweeps t l ≡ Some y → HasEdge p s l y
    steps_by p s t y l fit r goes =
        let step = next_some image sweeps t y l goes in
        subst (HasEdge p s l) step.3 (edge_of p s t l step.0 (as_many image s fit) r step.1 step.2)

    edges_alike : (s t x : MachineState) (l : ℕ) → has_harts_of image s ≡ true → Alike s t →
        next image sweeps s l ≡ Some x → (m : ℕ) × (y : MachineState) × (next image sweeps t m ≡ Some y) × Alike x y
    edges_alike s t x l fit r goes =
        let edge = steps_by r.1.to t s x l (alike_fits s t fit r) (renamed_other stays r.0 s t r.1) goes in
        (r.1.to l, edge.0, edge.1, renaming_other stays edge.0 x (r.1.to, edge.2))

    pub keeps_fit : (s t : MachineState) (l : ℕ) → has_harts_of image s ≡ true → next image sweeps s l ≡ Some t →
        has_harts_of image t ≡ true
    keeps_fit s t l fit goes =
        let step = next_some image sweeps s t l goes in
        have_as_many image t (sym (ap (λ (u : MachineState). length u.harts) step.3)
        ∙ (same_harts image s step.0 ∙ as_many image s fit))

    pub steps_alike : IsSymmetry (next image sweeps) (has_harts_of image) (IsRenaming stays)
    steps_alike = record {
      keeps = keeps_fit;
      fitting = alike_fits;
      itself = renaming_itself stays;
      other = renaming_other stays;
      third = renaming_third stays;
      edges = edges_alike;
    }

    -- ---- turns

    module _ (hides : HartState → HartState → Bool) (most : ℕ) where
      rest_renames : (p : ℕ → ℕ) (s t : MachineState) → IsRenamed stays p s t →
          IsRenamed stays p (rest_of image sweeps hides most s) (rest_of image sweeps hides most t)
      unfolding rest_of
      rest_renames p s t r =
          renamed_mapped stays (rest image.program sweeps hides most)
          (rest_stopped image.program sweeps hides most no_hart refl) p s t s.memory t.memory r.memory r

    pub turns_alike : (sight : Sight) → IsSymmetry (turn_by image sweeps sight) (has_harts_of image) (IsRenaming stays)
    turns_alike sight =
        merged_symmetry (next image sweeps) (has_harts_of image) (IsRenaming stays) steps_alike
        (rest_of image sweeps (hides sight) MAX_QUIET_STEPS)
        (λ s t r. (r.0, rest_renames (hides sight) MAX_QUIET_STEPS r.0 s t r.1))
        (rest_fits image sweeps (hides sight) MAX_QUIET_STEPS)

    -- an edge that leads on by a function of states that keeps the order of their harts
    merged_by : (edges : MachineState → ℕ → Option MachineState) (merge : MachineState → MachineState) →
        ((p : ℕ → ℕ) (s t y : MachineState) (l : ℕ) → has_harts_of image s ≡ true → IsRenamed stays p s t →
        edges t l ≡ Some y → (x : MachineState) × (edges s (p l) ≡ Some x) × IsRenamed stays p x y) →
        ((p : ℕ → ℕ) (s t : MachineState) → IsRenamed stays p s t → IsRenamed stays p (merge s) (merge t)) →
        (p : ℕ → ℕ) (s t y : MachineState) (l : ℕ) → has_harts_of image s ≡ true → IsRenamed stays p s t →
        merged edges merge t l ≡ Some y →
        (x : MachineState) × (merged edges merge s (p l) ≡ Some x) × IsRenamed stays p x y
    merged_by edges merge by renames p s t y l fit r goes =
        let step = merged_some merge (edges t l) y goes in
        let own = by p s t step.0 l fit r step.1 in (
          merge own.0,
          some_merged edges merge s own.0 (p l) own.1,
          subst (λ (z : MachineState). IsRenamed stays p (merge own.0) z) step.2 (renames p own.0 step.0 own.2),
        )

    turns_by : (sight : Sight) (p : ℕ → ℕ) (s t y : MachineState) (l : ℕ) → has_harts_of image s ≡ true →
        IsRenamed stays p s t → turn_by image sweeps sight t l ≡ Some y →
        (x : MachineState) × (turn_by image sweeps sight s (p l) ≡ Some x) × IsRenamed stays p x y
    turns_by sight =
        merged_by (next image sweeps) (rest_of image sweeps (hides sight) MAX_QUIET_STEPS) steps_by
        (rest_renames (hides sight) MAX_QUIET_STEPS)

  no_hart_forgets : (live : LiveSets) → forgotten_hart live no_hart ≡ no_hart
  unfolding forgotten_hart forgotten kept
  no_hart_forgets live = refl

  forgotten_renames : (live : LiveSets) (p : ℕ → ℕ) (s t : MachineState) → IsRenamed stays p s t →
      IsRenamed stays p (forgotten_state live s) (forgotten_state live t)
  unfolding forgotten_state
  forgotten_renames live p s t r =
      renamed_mapped stays (forgotten_hart live) (no_hart_forgets live) p s t s.memory t.memory r.memory r

  pub forgotten_turns_alike : (sight : Sight) (live : LiveSets) →
      IsSymmetry (forgotten_turn image sight live) (has_harts_of image) (IsRenaming stays)
  forgotten_turns_alike sight live =
      merged_symmetry (turn_by image [] sight) (has_harts_of image) (IsRenaming stays) (turns_alike [] sight)
      (forgotten_state live) (λ s t r. (r.0, forgotten_renames live r.0 s t r.1)) (forgotten_fits image live)

  pub forgotten_turns_by : (sight : Sight) (live : LiveSets) (p : ℕ → ℕ) (s t y : MachineState) (l : ℕ) →
      has_harts_of image s ≡ true → IsRenamed stays p s t → forgotten_turn image sight live t l ≡ Some y →
      (x : MachineState) × (forgotten_turn image sight live s (p l) ≡ Some x) × IsRenamed stays p x y
  forgotten_turns_by sight live =
      merged_by [] (turn_by image [] sight) (forgotten_state live) (turns_by [] sight) (forgotten_renames live)
