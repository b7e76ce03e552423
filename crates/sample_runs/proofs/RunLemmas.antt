-- A run, one operation after another.
use Rattle.std.proofs.Common.{◌≡◌, ℕ, ◌+◌, ◌-◌, ◌<◌, ◌≤◌, zero, suc, true, false, List, [], ◌∷◌, length, get_or, map, refl, sym, ap, ◌∙◌, subst, arith}
use Rattle.std.proofs.lemmas.Bool.{and_parts}
use Rattle.std.proofs.lemmas.Bool.Decides.{nat_tests}
use Rattle.std.proofs.lemmas.List.{get_or_read, get_or-set_same}
use Rattle.std.specs.Prelude.{slice_set, nat_lt}
use Rattle.cap_model.specs.values.CapValue.{CapValue}
use Rattle.cheri_model.specs.declared.operation.Op.{Op}
use Rattle.cheri_model.specs.declared.operation.Op.TheVariants as operation
use Rattle.cheri_model.specs.steps.Hart.{HartState}
use Rattle.cheri_model.specs.steps.HartStep.{Stepped, hart_step}
use Rattle.cheri_model.specs.runs.Image.{ImageParts}
use Rattle.cheri_model.specs.runs.Sweeps.{swept_hart, swept_memory}
use Rattle.cheri_model.specs.runs.Machine.{MachineState, is_running, hart_at, no_hart, may_take, state_after_step, state_after_one, swept_state}
use Rattle.sample_draws.specs.Drawings.{DrawingParts}
use Rattle.sample_draws.specs.Draws.{DrawParts, chosen}
use Rattle.sample_draws.specs.Orders.{Moment, running_harts, is_over, told, next_moment, and_then, run_from}
use Rattle.sample_runs.specs.Runners.{steps_of}
use Rattle.sample_runs.proofs.DrawLemmas.{next_steps}

-- a hart that was read at a number is the state's
pub read_hart : (harts : List HartState) (memory : List CapValue) (number : ℕ) (hart : HartState) → number < length harts
    → hart ≡ get_or harts number hart → hart ≡ hart_at (record { harts = harts; memory = memory }) number
unfolding hart_at
read_hart harts memory number hart inside is = get_or_read harts number hart inside is no_hart

-- a hart that was put there is the state's
pub put_hart : (harts : List HartState) (memory : List CapValue) (number : ℕ) (hart : HartState) → number < length harts
    → hart ≡ hart_at (record { harts = slice_set harts number hart; memory = memory }) number
unfolding hart_at
put_hart harts memory number hart inside = sym (get_or-set_same harts number hart no_hart inside)

-- the state after a step
pub state_stepped : (image : ImageParts) (harts : List HartState) (memory left : List CapValue) (number : ℕ) (before after : HartState)
    → before ≡ hart_at (record { harts = harts; memory = memory }) number
    → after ≡ (hart_step image.program before memory).hart → left ≡ (hart_step image.program before memory).memory
    → ◌≡◌ {A = MachineState} (record { harts = slice_set harts number after; memory = left })
    (state_after_step image (record { harts = harts; memory = memory }) number)
unfolding state_after_step
state_stepped image harts memory left number before after was hart_is left_is =
    let here = ap (λ h. hart_step image.program h memory) was in
    λ i. record {
      harts = slice_set harts number ((hart_is ∙ ap (λ (s : Stepped). s.hart) here) i);
      memory = (left_is ∙ ap (λ (s : Stepped). s.memory) here) i;
    }

pub state_swept : (lo hi : ℕ) (harts after : List HartState) (memory left : List CapValue)
    → after ≡ map (swept_hart lo hi) harts → left ≡ swept_memory lo hi memory
    → ◌≡◌ {A = MachineState} (record { harts = after; memory = left })
    (swept_state lo hi (record { harts = harts; memory = memory }))
unfolding swept_state
state_swept lo hi harts after memory left harts_is left_is i = record { harts = harts_is i; memory = left_is i }

pub less_of : (m n : ℕ) → nat_lt m n ≡ true → m < n
less_of m n is = grind (arith, nat_tests)

-- a hart that may step is there
pub step_there : (state : MachineState) (number : ℕ) → may_take state (operation.Step number) ≡ true → number < length state.harts
unfolding may_take
step_there state number may =
    less_of number (length state.harts)
    (and_parts (nat_lt number (length state.harts)) (is_running (hart_at state number).status) may).0

-- the moment after an operation
pub moment_next : (image : ImageParts) (state : MachineState) (op : Op) (middle : DrawParts) (choice : Op × DrawParts)
    (draws : DrawParts) (after : MachineState) → (op, middle) ≡ choice → after ≡ state_after_one image state op
    → draws ≡ told op state after middle
    → ◌≡◌ {A = Moment} (record { draws = draws; state = after }) (next_moment image state choice)
moment_next image state op middle choice draws after is after_is draws_is =
    let P : Op × DrawParts → Type 0 = λ c. ◌≡◌ {A = Moment} (record { draws = draws; state = after }) (next_moment image state c) in
    let all = draws_is ∙ ap (λ s. told op state s middle) after_is in
    subst P is (λ i. record { draws = all i; state = after_is i })

-- ---- the operations that are left

pub run_none : (image : ImageParts) (drawing : DrawingParts) (left : ℕ) (moment : Moment) → left ≡ 0
    → run_from image drawing left moment ≡ ([], moment)
unfolding run_from
run_none image drawing left moment e = rw e refl

pub run_over : (image : ImageParts) (drawing : DrawingParts) (left : ℕ) (moment : Moment) → is_over moment.state ≡ true
    → run_from image drawing left moment ≡ ([], moment)
unfolding run_from
run_over image drawing zero moment over = refl
run_over image drawing (suc left) moment over = rw over refl

suc_more : (image : ImageParts) (drawing : DrawingParts) (less left : ℕ) (moment : Moment) → left ≡ suc less
    → is_over moment.state ≡ false
    → run_from image drawing left moment
    ≡ and_then (chosen drawing.sweeps (running_harts moment.state) moment.draws).0
    (run_from image drawing less (next_moment image moment.state (chosen drawing.sweeps (running_harts moment.state) moment.draws)))
unfolding run_from
suc_more image drawing less left moment e on = rw e (rw on refl)

pub run_more : (image : ImageParts) (drawing : DrawingParts) (left : ℕ) (moment next : Moment) → 0 < left
    → is_over moment.state ≡ false
    → next ≡ next_moment image moment.state (chosen drawing.sweeps (running_harts moment.state) moment.draws)
    → run_from image drawing left moment
    ≡ and_then (chosen drawing.sweeps (running_harts moment.state) moment.draws).0 (run_from image drawing (left - 1) next)
run_more image drawing left moment next some on is =
    suc_more image drawing (left - 1) left moment (omega arith) on
    ∙ ap (λ m. and_then (chosen drawing.sweeps (running_harts moment.state) moment.draws).0 (run_from image drawing (left - 1) m)) (sym is)

-- a run that takes one operation more
pub record Goes (image : ImageParts) (drawing : DrawingParts) (left : ℕ) (moment next : Moment) (op : Op) : Type 0 where
  pub order : (run_from image drawing left moment).0 ≡ op ∷ (run_from image drawing (left - 1) next).0
  pub state : (run_from image drawing (left - 1) next).1.state ≡ (run_from image drawing left moment).1.state
  pub steps : steps_of next.draws.priorities ≤ steps_of moment.draws.priorities + 1

pub goes : (image seen : ImageParts) (drawing : DrawingParts) (left : ℕ) (moment next : Moment) (op : Op) → 0 < left
    → seen ≡ image → is_over moment.state ≡ false
    → op ≡ (chosen drawing.sweeps (running_harts moment.state) moment.draws).0
    → next ≡ next_moment seen moment.state (chosen drawing.sweeps (running_harts moment.state) moment.draws)
    → Goes image drawing left moment next op
goes image seen drawing left moment next op some same on op_is next_is =
    let choice = chosen drawing.sweeps (running_harts moment.state) moment.draws in
    let is : next ≡ next_moment image moment.state choice = next_is ∙ ap (λ i. next_moment i moment.state choice) same in
    let more = run_more image drawing left moment next some on is in
    let most = next_steps image moment.state drawing.sweeps (running_harts moment.state) moment.draws in
    let e : steps_of next.draws.priorities ≡ steps_of (next_moment image moment.state choice).draws.priorities =
    ap (λ (m : Moment). steps_of m.draws.priorities) is in
    record {
      order = ap (λ (r : List Op × Moment). r.0) more ∙ ap (λ o. o ∷ (run_from image drawing (left - 1) next).0) (sym op_is);
      state = sym (ap (λ (r : List Op × Moment). r.1.state) more);
      steps = omega (arith, e, most);
    }
