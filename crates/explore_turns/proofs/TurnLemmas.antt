-- The states with each hart at its rest stand for all states.
use Rattle.std.proofs.Common.{◌≡◌, ◌≢◌, ℕ, zero, suc, ◌+◌, ◌<◌, ◌≤◌, List, [], ◌∷◌, ◌++◌, length, map, take, drop, set, get_or, arith, ap, sym, ◌∙◌, refl, inl, inr, ◌⊎◌, subst, nat_lt, length-set}
use Rattle.std.specs.Prelude.{Some, Bool, true, false, slice_get}
use Rattle.std.proofs.lemmas.Bool.{cases_Bool, eqb-true, eq-eqb, and_parts, and_from, lt-ltb}
use Rattle.std.proofs.lemmas.List.{length-map, map-set, set-set, set-get_or, get_or-set_same, get_or-set_other, get_or-map, take_all, drop_all, append-nil}
use Rattle.std.proofs.lemmas.List.Edits.{map_over_more}
use Rattle.std.proofs.lemmas.Option.{none-some, same_Some, slice_get-get_or, get_or_from_slice_get}
use Rattle.cap_model.specs.values.CapValue.{CapValue}
use Rattle.cheri_model.specs.declared.operation.Op.{Op}
use Rattle.cheri_model.specs.declared.operation.Op.TheVariants as operation
use Rattle.cheri_model.specs.runs.Image.{ImageParts, opening_hart}
use Rattle.cheri_model.specs.runs.Machine.{MachineState, opening_state, hart_at, no_hart, is_running, may_take, state_after_one, state_after_step, swept_state}
use Rattle.cheri_model.specs.runs.Sweeps.{swept_hart, swept_memory}
use Rattle.cheri_model.specs.steps.Hart.{HartState}
use Rattle.cheri_model.specs.steps.HartStep.{hart_step}
use Rattle.explore_turns.proofs.QuietLemmas.{own_step_alone}
use Rattle.explore_turns.proofs.RestLemmas.{go_few, rested, moves_or_rests, rest_twice, rest_stopped, rest_own, running_rest, swept_rest, to_go, go_swept, go_own, quiet, quiet_is, rest_none, rest_some, option_cases, come_on, come_none, stopped_at}
use Rattle.explore_turns.specs.QuietSteps.{own_step, come}
use Rattle.explore_turns.specs.Turns.{rest_of, turn, has_harts_of}
use Rattle.graph_merging.proofs.MergingLemmas.{walk_on, walk_from, walk_fits, found_reachable}
use Rattle.graph_merging.specs.Merging.{IsMerging, Stays}
use Rattle.graph_search.specs.Walks.{IsWalk, IsReachable}
use Rattle.schedules.proofs.WalkLemmas.{next_some, some_next, step_hart, label_of_step, step_label, allowed_of, same_harts}
use Rattle.schedules.specs.declared.ranges.SweepRange.{SweepRange}
use Rattle.schedules.specs.Schedules.{next, operation_of_label}

-- two states with equal harts and memories are equal
pub same_state : (harts harts' : List HartState) (memory memory' : List CapValue) → harts ≡ harts' → memory ≡ memory' →
    ◌≡◌ {A = MachineState} (record { harts = harts; memory = memory }) (record { harts = harts'; memory = memory' })
same_state harts harts' memory memory' same also =
    ap (λ (hs : List HartState). record { harts = hs; memory = memory }) same
    ∙ ap (λ (m : List CapValue). record { harts = harts'; memory = m }) also

module _ (image : ImageParts) (sweeps : List SweepRange) (hides : HartState → HartState → Bool) (most : ℕ) where
  abbrev resting : HartState → HartState
  resting h = rested image.program sweeps hides most h

  abbrev own : HartState → HartState
  own h = own_step image.program h

  abbrev step_of : HartState → List CapValue → HartState
  step_of h m = (hart_step image.program h m).hart

  abbrev memory_of : HartState → List CapValue → List CapValue
  memory_of h m = (hart_step image.program h m).memory

  abbrev merge : MachineState → MachineState
  merge s = rest_of image sweeps hides most s

  -- the state with another hart in this place
  abbrev pub with_hart : MachineState → ℕ → HartState → MachineState
  with_hart s l h = record { harts = set s.harts l h; memory = s.memory }

  abbrev pub go : MachineState → ℕ → ℕ
  go s l = to_go image.program sweeps hides most (hart_at s l)

  pub go_most : (s : MachineState) (m : ℕ) → go s m ≤ suc most
  go_most s m = go_few image.program sweeps hides most (hart_at s m)

  abbrev pub Fits : MachineState → Type 0
  Fits s = length s.harts ≡ length image.harts

  pub fits_is : (s : MachineState) → has_harts_of image s ≡ true → Fits s
  fits_is s fit = eqb-true (length s.harts) (length image.harts) fit

  pub is_fit : (s : MachineState) → Fits s → has_harts_of image s ≡ true
  is_fit s fit = eq-eqb (length s.harts) (length image.harts) fit

  -- the hart of the state in which all rest
  hart_rested : (s : MachineState) (l : ℕ) → l < length s.harts → hart_at (merge s) l ≡ resting (hart_at s l)
  unfolding hart_at rest_of
  hart_rested s l low = get_or-map resting s.harts l no_hart no_hart low

  pub rest_state_twice : (harts : List HartState) → map resting (map resting harts) ≡ map resting harts
  rest_state_twice [] = refl
  rest_state_twice (h ∷ harts) =
      ap (λ (g : HartState). g ∷ map resting (map resting harts)) (rest_twice image.program sweeps hides most h)
      ∙ ap (λ (gs : List HartState). resting h ∷ gs) (rest_state_twice harts)

  swept_harts_rest : (k : ℕ) (range : SweepRange) → slice_get sweeps k ≡ Some range → (harts : List HartState) →
      map resting (map (swept_hart range.lo range.hi) (map resting harts))
      ≡ map resting (map (swept_hart range.lo range.hi) harts)
  swept_harts_rest k range there [] = refl
  swept_harts_rest k range there (h ∷ harts) =
      ap (λ (g : HartState). g ∷ map resting (map (swept_hart range.lo range.hi) (map resting harts)))
      (swept_rest image.program sweeps hides most k range h there)
      ∙ ap (λ (gs : List HartState). resting (swept_hart range.lo range.hi h) ∷ gs)
      (swept_harts_rest k range there harts)

  -- a step of a hart that moves changes this hart alone
  pub step_moves : (s : MachineState) (l : ℕ) → quiet image.program sweeps hides (hart_at s l) ≡ true →
      state_after_step image s l ≡ with_hart s l (own (hart_at s l))
  unfolding state_after_step
  step_moves s l moves =
      let alone = own_step_alone image.program (hart_at s l) s.memory
      (quiet_is image.program sweeps hides (hart_at s l) moves).alone in
      same_state (set s.harts l (step_of (hart_at s l) s.memory)) (set s.harts l (own (hart_at s l)))
      (memory_of (hart_at s l) s.memory) s.memory (ap (set s.harts l) alone.0) alone.1

  -- a hart in another hart's place, at its rest
  merge_with : (s : MachineState) (l : ℕ) (h : HartState) → l < length s.harts →
      resting h ≡ resting (hart_at s l) → merge (with_hart s l h) ≡ merge s
  unfolding rest_of hart_at
  merge_with s l h low same =
      let placed = map-set resting s.harts l h in
      let there : resting h ≡ get_or (map resting s.harts) l no_hart =
      same ∙ sym (get_or-map resting s.harts l no_hart no_hart low) in
      same_state (map resting (set s.harts l h)) (map resting s.harts) s.memory s.memory
      (placed ∙ (ap (set (map resting s.harts) l) there ∙ set-get_or (map resting s.harts) l no_hart)) refl

  pub hart_with : (s : MachineState) (l : ℕ) (h : HartState) → l < length s.harts → hart_at (with_hart s l h) l ≡ h
  unfolding hart_at
  hart_with s l h low = get_or-set_same s.harts l h no_hart low

  hart_at_set : (s : MachineState) (l m : ℕ) (h : HartState) (memory : List CapValue) → m ≢ l →
      hart_at (record { harts = set s.harts l h; memory = memory }) m ≡ hart_at s m
  unfolding hart_at
  hart_at_set s l m h memory other = get_or-set_other s.harts l m h no_hart other

  hart_swept : (s : MachineState) (m lo hi : ℕ) → m < length s.harts →
      hart_at (swept_state lo hi s) m ≡ swept_hart lo hi (hart_at s m)
  unfolding hart_at swept_state
  hart_swept s m lo hi low = get_or-map (swept_hart lo hi) s.harts m no_hart no_hart low

  -- a step of a hart at its rest leads on from the state in which all rest, as from this one
  step_rests : (s : MachineState) (l : ℕ) → l < length s.harts → resting (hart_at s l) ≡ hart_at s l →
      merge (state_after_step image (merge s) l) ≡ merge (state_after_step image s l)
  unfolding rest_of state_after_step
  step_rests s l low rests =
      let h = hart_at s l in
      let there : hart_at (merge s) l ≡ h = hart_rested s l low ∙ rests in
      let stepped : step_of (hart_at (merge s) l) s.memory ≡ step_of h s.memory =
      ap (λ (x : HartState). step_of x s.memory) there in
      let left : memory_of (hart_at (merge s) l) s.memory ≡ memory_of h s.memory =
      ap (λ (x : HartState). memory_of x s.memory) there in
      let after = step_of h s.memory in
      same_state (map resting (set (map resting s.harts) l (step_of (hart_at (merge s) l) s.memory)))
      (map resting (set s.harts l after)) (memory_of (hart_at (merge s) l) s.memory) (memory_of h s.memory)
      (ap (λ (x : HartState). map resting (set (map resting s.harts) l x)) stepped
      ∙ (map-set resting (map resting s.harts) l after
      ∙ (ap (λ (hs : List HartState). set hs l (resting after)) (rest_state_twice s.harts)
      ∙ sym (map-set resting s.harts l after)))) left

  merge_swept : (k : ℕ) (range : SweepRange) → slice_get sweeps k ≡ Some range → (s : MachineState) →
      merge (swept_state range.lo range.hi (merge s)) ≡ merge (swept_state range.lo range.hi s)
  unfolding rest_of swept_state
  merge_swept k range there s =
      same_state (map resting (map (swept_hart range.lo range.hi) (map resting s.harts)))
      (map resting (map (swept_hart range.lo range.hi) s.harts)) (swept_memory range.lo range.hi s.memory)
      (swept_memory range.lo range.hi s.memory) (swept_harts_rest k range there s.harts) refl

  -- the parts of a step that may be taken
  may_step : (s : MachineState) (l : ℕ) → may_take s (operation.Step l) ≡ true →
      (l < length s.harts) × (is_running (hart_at s l).status ≡ true)
  unfolding may_take
  may_step s l may =
      (step_hart s l may, (and_parts (nat_lt l (length s.harts)) (is_running (hart_at s l).status) may).1)

  step_may : (s : MachineState) (l : ℕ) → l < length s.harts → is_running (hart_at s l).status ≡ true →
      may_take s (operation.Step l) ≡ true
  unfolding may_take
  step_may s l low runs =
      and_from (nat_lt l (length s.harts)) (is_running (hart_at s l).status) (lt-ltb l (length s.harts) low) runs

  merge_size : (s : MachineState) → length (merge s).harts ≡ length s.harts
  unfolding rest_of
  merge_size s = length-map s.harts resting

  -- what is so of an edge: its operation, and where it leads
  next_step : (s t : MachineState) (l : ℕ) → next image sweeps s l ≡ Some t → l < length image.harts →
      (l < length s.harts) × (is_running (hart_at s l).status ≡ true) × (state_after_step image s l ≡ t)
  unfolding state_after_one
  next_step s t l goes low =
      let edge = next_some image sweeps s t l goes in
      let same : operation.Step l ≡ edge.0 =
      same_Some (operation.Step l) edge.0 (sym (label_of_step image sweeps l low) ∙ edge.1) in
      let may = may_step s l (subst (λ (op : Op). may_take s op ≡ true) (sym same) edge.2) in
      (may.0, may.1, subst (λ (op : Op). state_after_one image s op ≡ t) (sym same) edge.3)

  step_next : (s : MachineState) (l : ℕ) → Fits s → l < length image.harts → is_running (hart_at s l).status ≡ true →
      next image sweeps s l ≡ Some (state_after_step image s l)
  unfolding state_after_one
  step_next s l fit low runs =
      some_next image sweeps s l (operation.Step l) (label_of_step image sweeps l low)
      (step_may s l (omega arith) runs)

  -- an edge of an actor
  forth_step : (s t : MachineState) (l : ℕ) → Fits s → l < length image.harts → next image sweeps s l ≡ Some t →
      Stays (length image.harts) merge go s l t
      ⊎ ((u : MachineState) × (next image sweeps (merge s) l ≡ Some u) × (merge u ≡ merge t))
  forth_step s t l fit low goes =
      let edge = next_step s t l goes low in
      let h = hart_at s l in
      elim (moves_or_rests image.program sweeps hides most h) [
        | inl moves ↦
            let to = with_hart s l (own h) in
            let leads : to ≡ t = sym (step_moves s l moves.1.0) ∙ edge.2 in
            let same : merge to ≡ merge s =
            merge_with s l (own h) edge.0 (rest_own image.program sweeps hides most h moves.0 moves.1) in
            let less = go_own image.program sweeps hides most h moves.0 moves.1 in
            let there = ap (to_go image.program sweeps hides most) (hart_with s l (own h) edge.0) in
            let nearer : go to l < go s l = omega (arith, less, there) in
            inl (low, sym (ap merge leads) ∙ same, subst (λ (x : MachineState). go x l < go s l) leads nearer)
        | inr rests ↦
            let runs : is_running (hart_at (merge s) l).status ≡ true =
            ap (λ (x : HartState). is_running x.status) (hart_rested s l edge.0 ∙ rests) ∙ edge.1 in
            inr (
              state_after_step image (merge s) l,
              step_next (merge s) l (merge_size s ∙ fit) low runs,
              step_rests s l edge.0 rests ∙ ap merge edge.2,
            )
      ]

  -- an edge of a sweep
  next_sweep : (s t : MachineState) (l lo hi : ℕ) → operation_of_label image sweeps l ≡ Some (operation.Sweep lo hi) →
      next image sweeps s l ≡ Some t → (may_take s (operation.Sweep lo hi) ≡ true) × (swept_state lo hi s ≡ t)
  unfolding state_after_one
  next_sweep s t l lo hi is goes =
      let edge = next_some image sweeps s t l goes in
      let same : operation.Sweep lo hi ≡ edge.0 = same_Some (operation.Sweep lo hi) edge.0 (sym is ∙ edge.1) in (
        subst (λ (op : Op). may_take s op ≡ true) (sym same) edge.2,
        subst (λ (op : Op). state_after_one image s op ≡ t) (sym same) edge.3,
      )

  forth_sweep : (s t : MachineState) (l lo hi : ℕ) → operation_of_label image sweeps l ≡ Some (operation.Sweep lo hi) →
      next image sweeps s l ≡ Some t →
      (u : MachineState) × (next image sweeps (merge s) l ≡ Some u) × (merge u ≡ merge t)
  unfolding state_after_one may_take
  forth_sweep s t l lo hi is goes =
      let edge = next_sweep s t l lo hi is goes in
      let allowed = allowed_of image sweeps l (operation.Sweep lo hi) is in (
        swept_state lo hi (merge s),
        some_next image sweeps (merge s) l (operation.Sweep lo hi) is edge.0,
        merge_swept allowed.0 (record { lo = lo; hi = hi }) allowed.1 s ∙ ap merge edge.1,
      )

  -- a label below the harts is a step's, and another's operation is a sweep
  operation_cases : (l : ℕ) (op : Op) → operation_of_label image sweeps l ≡ Some op →
      ((hart : ℕ) × (op ≡ operation.Step hart) × (hart < length image.harts) × (l ≡ hart))
      ⊎ ((lo hi : ℕ) × (op ≡ operation.Sweep lo hi))
  operation_cases l (operation.Sweep lo hi) is = inr (lo, hi, refl)
  operation_cases l (operation.Step hart) is =
      let step = step_label image sweeps l hart is in
      inl (hart, refl, subst (λ (k : ℕ). k < length image.harts) step.0 step.1, step.0)

  forth : (s t : MachineState) (l : ℕ) → has_harts_of image s ≡ true → next image sweeps s l ≡ Some t →
      Stays (length image.harts) merge go s l t
      ⊎ ((u : MachineState) × (next image sweeps (merge s) l ≡ Some u) × (merge u ≡ merge t))
  forth s t l fit goes =
      let edge = next_some image sweeps s t l goes in
      elim (operation_cases l edge.0 edge.1) [
        | inl step ↦ forth_step s t l (fits_is s fit) (subst (λ (k : ℕ). k < length image.harts) (sym step.3) step.2) goes
        | inr sweep ↦
            inr (forth_sweep s t l sweep.0 sweep.1 (edge.1 ∙ ap (λ (op : Op). Some op) sweep.2) goes)
      ]

  pub keeps : (s t : MachineState) (l : ℕ) → has_harts_of image s ≡ true → next image sweeps s l ≡ Some t →
      has_harts_of image t ≡ true
  keeps s t l fit goes =
      let edge = next_some image sweeps s t l goes in
      is_fit t (sym (ap (λ (x : MachineState). length x.harts) edge.3) ∙ (same_harts image s edge.0 ∙ fits_is s fit))

  -- other harts have no more quiet steps after an edge
  falls : (s t : MachineState) (l m : ℕ) → has_harts_of image s ≡ true → next image sweeps s l ≡ Some t →
      m < length image.harts → m ≢ l → go t m ≤ go s m
  unfolding state_after_step
  falls s t l m fit goes low other =
      let edge = next_some image sweeps s t l goes in
      elim (operation_cases l edge.0 edge.1) [
        | inl step ↦
            let here = subst (λ (k : ℕ). k < length image.harts) (sym step.3) step.2 in
            let leads = (next_step s t l goes here).2 in
            let same : hart_at t m ≡ hart_at s m = sym (ap (λ (x : MachineState). hart_at x m) leads)
            ∙ hart_at_set s l m (step_of (hart_at s l) s.memory) (memory_of (hart_at s l) s.memory) other in
            let even = ap (to_go image.program sweeps hides most) same in
            omega (arith, even)
        | inr sweep ↦
            let is = edge.1 ∙ ap (λ (op : Op). Some op) sweep.2 in
            let leads = (next_sweep s t l sweep.0 sweep.1 is goes).1 in
            let allowed = allowed_of image sweeps l (operation.Sweep sweep.0 sweep.1) is in
            let below : m < length s.harts = let size = fits_is s fit in omega (arith, low, size) in
            let same : hart_at t m ≡ swept_hart sweep.0 sweep.1 (hart_at s m) =
            sym (ap (λ (x : MachineState). hart_at x m) leads) ∙ hart_swept s m sweep.0 sweep.1 below in
            let even = ap (to_go image.program sweeps hides most) same in
            let less = go_swept image.program sweeps hides most allowed.0
            (record { lo = sweep.0; hi = sweep.1 }) (hart_at s m) allowed.1 in
            omega (arith, even, less)
      ]

  still : (s u : MachineState) (l : ℕ) → has_harts_of image s ≡ true → next image sweeps (merge s) l ≡ Some u →
      l < length image.harts → (t : MachineState) × (next image sweeps s l ≡ Some t)
  still s u l fit goes low =
      let edge = next_step (merge s) u l goes low in
      let size = fits_is s fit in
      let below : l < length s.harts = omega (arith, low, size) in
      let runs : is_running (resting (hart_at s l)).status ≡ true =
      subst (λ (h : HartState). is_running h.status ≡ true) (hart_rested s l below) edge.1 in (
        state_after_step image s l,
        step_next s l size low (running_rest image.program sweeps hides most (hart_at s l) runs),
      )

  -- a hart in its own place
  pub own_place : (s : MachineState) (l : ℕ) (g : HartState) → hart_at s l ≡ g → s ≡ with_hart s l g
  unfolding hart_at
  own_place s l g same =
      same_state s.harts (set s.harts l g) s.memory s.memory
      (sym (set-get_or s.harts l no_hart) ∙ ap (set s.harts l) same) refl

  pub with_twice : (s : MachineState) (l : ℕ) (h g : HartState) → with_hart (with_hart s l h) l g ≡ with_hart s l g
  with_twice s l h g = same_state (set (set s.harts l h) l g) (set s.harts l g) s.memory s.memory (set-set s.harts l h g) refl

  -- a hart's quiet steps as a walk
  way_walk : (k : ℕ) (s : MachineState) (l : ℕ) (g : HartState) → Fits s → l < length image.harts →
      come image.program sweeps hides k (hart_at s l) ≡ Some g →
      (ls : List ℕ) × IsWalk (next image sweeps) s ls (with_hart s l g)
  way_walk zero s l g fit low is = elim (cases_Bool (quiet image.program sweeps hides (hart_at s l))) [
    | inl moves ↦ absurd (none-some g (sym (come_none image.program sweeps hides (hart_at s l) moves) ∙ is))
    | inr rests ↦
        let same = stopped_at image.program sweeps hides 0 (hart_at s l) g rests is in
        ([], ap (λ (x : MachineState). Some x) (own_place s l g same))
  ]
  way_walk (suc k) s l g fit low is = elim (cases_Bool (quiet image.program sweeps hides (hart_at s l))) [
    | inl moves ↦
        let h = hart_at s l in
        let on = with_hart s l (own h) in
        let below : l < length s.harts = omega (arith, fit, low) in
        let first : next image sweeps s l ≡ Some on =
        step_next s l fit low (quiet_is image.program sweeps hides h moves).runs
        ∙ ap (λ (x : MachineState). Some x) (step_moves s l moves) in
        let there : come image.program sweeps hides k (hart_at on l) ≡ Some g =
        ap (λ (x : HartState). come image.program sweeps hides k x) (hart_with s l (own h) below)
        ∙ (sym (come_on image.program sweeps hides k h moves) ∙ is) in
        let size : Fits on = length-set s.harts l (own h) ∙ fit in
        let tail = way_walk k on l g size low there in
        let end : IsWalk (next image sweeps) on tail.0 (with_hart s l g) =
        subst (λ (x : MachineState). IsWalk (next image sweeps) on tail.0 x) (with_twice s l (own h) g) tail.1 in
        (l ∷ tail.0, walk_from (next image sweeps) s on (with_hart s l g) l tail.0 first end)
    | inr rests ↦
        let same = stopped_at image.program sweeps hides (suc k) (hart_at s l) g rests is in
        ([], ap (λ (x : MachineState). Some x) (own_place s l g same))
  ]

  lead_one : (s : MachineState) (l : ℕ) → Fits s → l < length image.harts →
      (ls : List ℕ) × IsWalk (next image sweeps) s ls (with_hart s l (resting (hart_at s l)))
  lead_one s l fit low = elim (option_cases (come image.program sweeps hides most (hart_at s l))) [
    | inl none ↦
        let same = rest_none image.program sweeps hides most (hart_at s l) none in
        ([], ap (λ (x : MachineState). Some x) (own_place s l (resting (hart_at s l)) (sym same)))
    | inr some ↦
        let same = rest_some image.program sweeps hides most (hart_at s l) some.0 some.1 in
        let walk = way_walk most s l some.0 fit low some.1 in
        (walk.0, subst (λ (g : HartState). IsWalk (next image sweeps) s walk.0 (with_hart s l g)) (sym same) walk.1)
  ]

  -- the state with the first harts at their rest
  abbrev first_rest : ℕ → MachineState → MachineState
  first_rest i s = record { harts = map resting (take i s.harts) ++ drop i s.harts; memory = s.memory }

  next_rest : (s : MachineState) (i : ℕ) → i < length s.harts → length (first_rest i s).harts ≡ length s.harts →
      with_hart (first_rest i s) i (resting (hart_at (first_rest i s) i)) ≡ first_rest (i + 1) s
  unfolding hart_at
  next_rest s i low size =
      let harts = (first_rest i s).harts in
      let below : i < length harts = omega (arith, low, size) in
      let x = get_or harts i no_hart in
      let there : x ≡ get_or harts i x = sym (get_or_from_slice_get harts i x x (slice_get-get_or harts i no_hart below)) in
      same_state (set harts i (resting x)) (first_rest (i + 1) s).harts s.memory s.memory
      (map_over_more resting s.harts harts i x low refl there) refl

  lead_first : (i : ℕ) (s : MachineState) → Fits s → i ≤ length s.harts →
      (ls : List ℕ) × IsWalk (next image sweeps) s ls (first_rest i s)
  lead_first zero s fit low = ([], refl)
  lead_first (suc i) s fit low =
      let before = lead_first i s fit (omega (arith, low)) in
      let r = first_rest i s in
      let size : Fits r =
      fits_is r (walk_fits (next image sweeps) (has_harts_of image) keeps s r before.0 (is_fit s fit) before.1) in
      let step = lead_one r i size (omega (arith, low, fit)) in
      let more : suc i ≡ i + 1 = omega arith in
      let end = next_rest s i (omega (arith, low)) (size ∙ sym fit) ∙ ap (λ (k : ℕ). first_rest k s) (sym more) in (
        before.0 ++ step.0,
        walk_on (next image sweeps) s r (first_rest (suc i) s) before.0 step.0 before.1
            (subst (λ (x : MachineState). IsWalk (next image sweeps) r step.0 x) end step.1),
      )

  leads : (s : MachineState) → has_harts_of image s ≡ true →
      (ls : List ℕ) × IsWalk (next image sweeps) s ls (merge s)
  unfolding rest_of
  leads s fit =
      let n = length s.harts in
      let walk = lead_first n s (fits_is s fit) (omega arith) in
      let all : map resting (take n s.harts) ++ drop n s.harts ≡ map resting s.harts =
      ap (λ (hs : List HartState). map resting (take n s.harts) ++ hs) (drop_all n s.harts (omega arith))
      ∙ (append-nil (map resting (take n s.harts)) ∙ ap (map resting) (take_all n s.harts (omega arith))) in
      let end = same_state (map resting (take n s.harts) ++ drop n s.harts) (map resting s.harts) s.memory s.memory all refl in
      (walk.0, subst (λ (x : MachineState). IsWalk (next image sweeps) s walk.0 x) end walk.1)

  pub merging : IsMerging (next image sweeps) (length image.harts) (has_harts_of image) merge go
  merging = record {
    keeps = keeps;
    forth = forth;
    falls = falls;
    leads = leads;
    still = still;
  }

  pub opening_fits : Fits (opening_state image)
  unfolding opening_state
  opening_fits = length-map image.harts opening_hart

  -- what turns lead to
  pub rest_reached : (s : MachineState) → IsReachable (next image sweeps) (opening_state image) s →
      IsReachable (turn image sweeps hides most) (merge (opening_state image)) (merge s)
  rest_reached s reached =
      found_reachable (next image sweeps) (length image.harts) (has_harts_of image) merge go merging
      (opening_state image) s (is_fit (opening_state image) opening_fits) reached

  -- a state in which no hart runs rests
  pub stopped_rests : (s : MachineState) → ((l : ℕ) (h : HartState) → slice_get s.harts l ≡ Some h → is_running h.status ≡ false) →
      merge s ≡ s
  unfolding rest_of
  stopped_rests s stopped = same_state (map resting s.harts) s.harts s.memory s.memory (all s.harts stopped) refl
    where
      all : (hs : List HartState) → ((l : ℕ) (h : HartState) → slice_get hs l ≡ Some h → is_running h.status ≡ false) →
          map resting hs ≡ hs
      all [] none = refl
      all (h ∷ hs) none =
          ap (λ (g : HartState). g ∷ map resting hs) (rest_stopped image.program sweeps hides most h (none 0 h refl))
          ∙ ap (λ (gs : List HartState). h ∷ gs) (all hs (λ l g at. none (suc l) g at))

pub opening_count : (image : ImageParts) → length (opening_state image).harts ≡ length image.harts
unfolding opening_state
opening_count image = length-map image.harts opening_hart
