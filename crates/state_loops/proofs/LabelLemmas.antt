-- Loops as labels and as operations.
use Rattle.std.proofs.Common.{◌≡◌, ℕ, zero, suc, ◌+◌, ◌<◌, List, [], ◌∷◌, length, take, arith, ap, sym, ◌∙◌, refl, inl, inr, subst, nat_lt}
use Rattle.std.specs.Prelude.{Some, true}
use Rattle.std.proofs.lemmas.Bool.{cases_Bool}
use Rattle.std.proofs.lemmas.Bool.Decides.{nat_tests}
use Rattle.std.proofs.lemmas.Option.{same_Some}
use Rattle.cheri_model.specs.declared.operation.Op.{Op}
use Rattle.cheri_model.specs.declared.operation.Op.TheVariants as operation
use Rattle.cheri_model.specs.runs.Image.{ImageParts}
use Rattle.cheri_model.specs.runs.Machine.{MachineState, may_take}
use Rattle.graph_loops.specs.Loops.{Takes, actor_count}
use Rattle.graph_loops.specs.Loops as graphs
use Rattle.schedules.specs.declared.ranges.SweepRange.{SweepRange}
use Rattle.schedules.specs.Schedules.{operation_of_label, next, AreLabelsOf}
use Rattle.schedules.proofs.WalkLemmas.{next_some, label_of_step, step_label, legal_walk, legal_labels}
use Rattle.state_loops.specs.Endless.{Steps, IsLoop, IsFair, step_count}

step_is_no_sweep : (image : ImageParts) (sweeps : List SweepRange) (l lo hi : ℕ) → l < length image.harts →
    operation_of_label image sweeps l ≡ Some (operation.Sweep lo hi) → ⊥
step_is_no_sweep image sweeps l lo hi low is =
    let e : operation.Step l ≡ operation.Sweep lo hi =
    same_Some (operation.Step l) (operation.Sweep lo hi) (sym (label_of_step image sweeps l low) ∙ is) in
    absurd (cc)

pub takes_steps : (image : ImageParts) (sweeps : List SweepRange) (ls : List ℕ) (order : List Op) (m : ℕ) →
    AreLabelsOf image sweeps ls order → m < length image.harts → Takes ls m → Steps order m
takes_steps image sweeps [] order m are low takes = absurd takes
takes_steps image sweeps (l ∷ ls) [] m are low takes = absurd are
takes_steps image sweeps (l ∷ ls) (op ∷ order) m are low takes = elim takes [
  | inl here ↦ inl (same_Some op (operation.Step m)
      (sym are.0 ∙ (ap (operation_of_label image sweeps) here ∙ label_of_step image sweeps m low)))
  | inr later ↦ inr (takes_steps image sweeps ls order m are.1 low later)
]

pub steps_takes : (image : ImageParts) (sweeps : List SweepRange) (ls : List ℕ) (order : List Op) (hart : ℕ) →
    AreLabelsOf image sweeps ls order → Steps order hart → Takes ls hart × (hart < length image.harts)
steps_takes image sweeps [] [] hart are steps = absurd steps
steps_takes image sweeps [] (op ∷ order) hart are steps = absurd are
steps_takes image sweeps (l ∷ ls) [] hart are steps = absurd are
steps_takes image sweeps (l ∷ ls) (op ∷ order) hart are steps = elim steps [
  | inl here ↦
      let s = step_label image sweeps l hart (are.0 ∙ ap (λ (o : Op). Some o) here) in
      (inl s.0, subst (λ (k : ℕ). k < length image.harts) s.0 s.1)
  | inr later ↦ let s = steps_takes image sweeps ls order hart are.1 later in (inr s.0, s.1)
]

-- labels of harts are those of steps
labels_steps_of : (image : ImageParts) (sweeps : List SweepRange) (l : ℕ) (op : Op) (ls : List ℕ) (order : List Op) →
    operation_of_label image sweeps l ≡ Some op → actor_count (length image.harts) ls ≡ step_count order →
    actor_count (length image.harts) (l ∷ ls) ≡ step_count (op ∷ order)
labels_steps_of image sweeps l (operation.Step hart) ls order is same =
    let label = step_label image sweeps l hart is in
    let low : nat_lt l (length image.harts) ≡ true = grind (arith, nat_tests) in
    rw low (ap (λ (n : ℕ). n + 1) same)
labels_steps_of image sweeps l (operation.Sweep lo hi) ls order is same =
    elim (cases_Bool (nat_lt l (length image.harts))) [
      | inl low ↦ absurd (step_is_no_sweep image sweeps l lo hi (grind (arith, nat_tests)) is)
      | inr high ↦ rw high same
    ]

pub labels_steps : (image : ImageParts) (sweeps : List SweepRange) (ls : List ℕ) (order : List Op) →
    AreLabelsOf image sweeps ls order → actor_count (length image.harts) ls ≡ step_count order
labels_steps image sweeps [] [] are = refl
labels_steps image sweeps [] (op ∷ order) are = absurd are
labels_steps image sweeps (l ∷ ls) [] are = absurd are
labels_steps image sweeps (l ∷ ls) (op ∷ order) are =
    labels_steps_of image sweeps l op ls order are.0 (labels_steps image sweeps ls order are.1)

-- the first labels are those of the first operations
pub labels_take : (image : ImageParts) (sweeps : List SweepRange) (n : ℕ) (ls : List ℕ) (order : List Op) →
    AreLabelsOf image sweeps ls order → AreLabelsOf image sweeps (take n ls) (take n order)
labels_take image sweeps zero ls order are = tt
labels_take image sweeps (suc n) [] [] are = tt
labels_take image sweeps (suc n) [] (op ∷ order) are = absurd are
labels_take image sweeps (suc n) (l ∷ ls) [] are = absurd are
labels_take image sweeps (suc n) (l ∷ ls) (op ∷ order) are = (are.0, labels_take image sweeps n ls order are.1)

module _ (image : ImageParts) (sweeps : List SweepRange) (s : MachineState) (size : length s.harts ≡ length image.harts) where
  -- the labels of a loop's operations
  pub labels_of_loop : (cycle : List Op) → IsLoop image sweeps s cycle →
      (ls : List ℕ) × AreLabelsOf image sweeps ls cycle
      × graphs.IsLoop (next image sweeps) (length image.harts) s ls
  labels_of_loop cycle loop =
      let ls = legal_labels image sweeps s cycle size loop.allowed loop.legal in
      let walk = legal_walk image sweeps s ls.0 cycle ls.1 loop.legal in
      let hart = loop.steps in
      let takes = steps_takes image sweeps ls.0 cycle hart.0 ls.1 hart.1 in
      (ls.0, ls.1, (walk ∙ ap (λ (t : MachineState). Some t) loop.back, (hart.0, takes.1, takes.0)))

  pub labels_of_fair : (ls : List ℕ) (cycle : List Op) → AreLabelsOf image sweeps ls cycle → IsFair s cycle →
      graphs.IsFair (next image sweeps) (length image.harts) s ls
  labels_of_fair ls cycle are fair m t low goes =
      let step = next_some image sweeps s t m goes in
      let same : step.0 ≡ operation.Step m =
      same_Some step.0 (operation.Step m) (sym step.1 ∙ label_of_step image sweeps m low) in
      (steps_takes image sweeps ls cycle m are
      (fair m (subst (λ (o : Op). may_take s o ≡ true) same step.2))).0
