-- The operation that is taken next.
use Rattle.std.proofs.Common.{◌≡◌, ℕ, ◌<◌, ◌==◌, Bool, true, false, List, length, sym, ap, ◌∙◌, subst, arith}
use Rattle.std.proofs.lemmas.Bool.Decides.{nat_tests}
use Rattle.cheri_model.specs.declared.operation.Op.{Op}
use Rattle.cheri_model.specs.steps.Hart.{HartState}
use Rattle.cheri_model.specs.runs.Machine.{MachineState, may_take}
use Rattle.schedules.specs.declared.ranges.SweepRange.{SweepRange}
use Rattle.sample_draws.specs.Drawings.{DrawingParts, is_drawing}
use Rattle.sample_draws.specs.Draws.{DrawParts, chosen}
use Rattle.sample_draws.specs.Orders.{running_from, running_harts, is_over}
use Rattle.sample_draws.proofs.ChoiceLemmas.{chosen_may}
use Rattle.sample_draws.proofs.DrawingLemmas.{drawing_within}
use Rattle.sample_runs.specs.Runners.{steps_of}
use Rattle.sample_runs.proofs.DrawLemmas.{chosen_steps}

is_zero : (n : ℕ) → (n == 0) ≡ true → n ≡ 0
is_zero n is = grind (arith, nat_tests)

not_zero : (n : ℕ) → (n == 0) ≡ false → 0 < n
not_zero n is = grind (arith, nat_tests)

pub empty_is : (xs : List ℕ) (b : Bool) → b ≡ (length xs == 0) → b ≡ true → length xs ≡ 0
empty_is xs b is true_is = is_zero (length xs) (sym is ∙ true_is)

pub empty_not : (xs : List ℕ) (b : Bool) → b ≡ (length xs == 0) → b ≡ false → 0 < length xs
empty_not xs b is false_is = not_zero (length xs) (sym is ∙ false_is)

-- those that were listed are the state's
pub running_are : (seen : List HartState) (state : MachineState) (found : List ℕ) → found ≡ running_from 0 seen
    → seen ≡ state.harts → found ≡ running_harts state
unfolding running_harts
running_are seen state found is same = is ∙ ap (running_from 0) same

pub none_run : (state : MachineState) (found : List ℕ) → found ≡ running_harts state → length found ≡ 0
    → is_over state ≡ true
none_run state found is none = ap (λ n. n == 0) (ap length (sym is) ∙ none)

is_not : (n : ℕ) → 0 < n → (n == 0) ≡ false
is_not n some = grind (arith, nat_tests)

pub some_run : (state : MachineState) (found : List ℕ) → found ≡ running_harts state → 0 < length found
    → is_over state ≡ false
some_run state found is some =
    ap (λ (xs : List ℕ). length xs == 0) (sym is) ∙ is_not (length found) some

pub record IsNext (drawing : DrawingParts) (state : MachineState) (draws middle : DrawParts) (op : Op) : Type 0 where
  pub on : is_over state ≡ false
  pub choice : (op, middle) ≡ chosen drawing.sweeps (running_harts state) draws
  pub may : may_take state op ≡ true
  pub steps : steps_of middle.priorities ≡ steps_of draws.priorities

pub is_next : (drawing : DrawingParts) (state : MachineState) (draws middle : DrawParts) (op : Op)
    (sweeps : List SweepRange) (running : List ℕ) → is_drawing drawing ≡ true → sweeps ≡ drawing.sweeps
    → running ≡ running_harts state → 0 < length running → (op, middle) ≡ chosen sweeps running draws
    → IsNext drawing state draws middle op
is_next drawing state draws middle op sweeps running is same listed some choice =
    let on = some_run state running listed some in
    let all : (op, middle) ≡ chosen drawing.sweeps (running_harts state) draws =
    choice ∙ ap (λ s. chosen s running draws) same ∙ ap (λ r. chosen drawing.sweeps r draws) listed in
    let first : op ≡ (chosen drawing.sweeps (running_harts state) draws).0 = ap (λ (c : Op × DrawParts). c.0) all in
    record {
      on = on;
      choice = all;
      may = subst (λ o. may_take state o ≡ true) (sym first)
          (chosen_may state drawing.sweeps draws (drawing_within drawing is).ranges on);
      steps = ap (λ (c : Op × DrawParts). steps_of c.1.priorities) all
          ∙ chosen_steps drawing.sweeps (running_harts state) draws;
    }
