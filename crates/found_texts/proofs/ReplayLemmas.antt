-- Orders of steps that are taken one by one.
use Rattle.std.proofs.Common.{◌≡◌, ℕ, ◌+◌, ◌<◌, ◌≤◌, List, [], ◌∷◌, length, drop, get_or, true, sym, ap, ◌∙◌, subst, arith}
use Rattle.std.specs.Prelude.{nat_lt}
use Rattle.std.proofs.lemmas.Bool.{and_parts}
use Rattle.std.proofs.lemmas.Bool.Decides.{nat_tests}
use Rattle.std.proofs.lemmas.List.{drop_all, drop_more}
use Rattle.cheri_model.specs.declared.operation.Op.{Op}
use Rattle.cheri_model.specs.declared.operation.Op.TheVariants as operation
use Rattle.cheri_model.specs.runs.Image.{ImageParts}
use Rattle.cheri_model.specs.runs.Machine.{MachineState, may_take, state_after_one}
use Rattle.cheri_model.specs.runs.Replay.{is_legal, state_after}
use Rattle.schedules.specs.Schedules.{AreAllowed}

-- an order of steps is legal from this state, and leads from it to the end
pub record GoesOn (image : ImageParts) (state : MachineState) (order : List Op) (end : MachineState) : Type 0 where
  pub allowed : AreAllowed [] order
  pub legal : is_legal image state order ≡ true
  pub leads : state_after image state order ≡ end

-- the operation after the first n is the first of those that are left
first_is : (image : ImageParts) (state end : MachineState) (n : ℕ) (order : List Op) (op d : Op) → n < length order →
    op ≡ get_or order n d → GoesOn image state (drop n order) end → GoesOn image state (op ∷ drop (n + 1) order) end
first_is image state end n order op d low is goes =
    subst (λ (ops : List Op). GoesOn image state ops end) (drop_more order n d low ∙ ap (λ (o : Op). o ∷ drop (n + 1) order) (sym is)) goes

-- it is a step of a hart that is there
pub step_there : (image : ImageParts) (state end : MachineState) (n : ℕ) (order : List Op) (op d : Op) (number : ℕ) → n < length order →
    op ≡ get_or order n d → op ≡ operation.Step number → GoesOn image state (drop n order) end → number < length state.harts
unfolding is_legal may_take
step_there image state end n order op d number low is step goes =
    let first = first_is image state end n order op d low is goes in
    let here : GoesOn image state (operation.Step number ∷ drop (n + 1) order) end =
    subst (λ (o : Op). GoesOn image state (o ∷ drop (n + 1) order) end) step first in
    let may = (and_parts (may_take state (operation.Step number)) _ here.legal).0 in
    let there : nat_lt number (length state.harts) ≡ true = (and_parts (nat_lt number (length state.harts)) _ may).0 in
    grind (arith, nat_tests)

-- and from where it leads the others go on
pub step_on : (image : ImageParts) (state after end : MachineState) (n : ℕ) (order : List Op) (op d : Op) (number : ℕ) →
    n < length order → op ≡ get_or order n d → op ≡ operation.Step number → after ≡ state_after_one image state (operation.Step number) →
    GoesOn image state (drop n order) end → GoesOn image after (drop (n + 1) order) end
unfolding is_legal state_after
step_on image state after end n order op d number low is step leads goes =
    let first = first_is image state end n order op d low is goes in
    let here : GoesOn image state (operation.Step number ∷ drop (n + 1) order) end =
    subst (λ (o : Op). GoesOn image state (o ∷ drop (n + 1) order) end) step first in
    subst (λ (s : MachineState). GoesOn image s (drop (n + 1) order) end) (sym leads) (record {
      allowed = here.allowed.1;
      legal = (and_parts (may_take state (operation.Step number)) _ here.legal).1;
      leads = here.leads;
    })

-- it is no sweep
pub no_sweep : (image : ImageParts) (state end : MachineState) (n : ℕ) (order : List Op) (op d : Op) (lo hi : ℕ) → n < length order →
    op ≡ get_or order n d → op ≡ operation.Sweep lo hi → GoesOn image state (drop n order) end → ⊥
no_sweep image state end n order op d lo hi low is sweep goes =
    let first = first_is image state end n order op d low is goes in
    let here : GoesOn image state (operation.Sweep lo hi ∷ drop (n + 1) order) end =
    subst (λ (o : Op). GoesOn image state (o ∷ drop (n + 1) order) end) sweep first in
    let none = here.allowed.0.1 in absurd (cc)

-- where none is left, this is the end
pub ends_here : (image : ImageParts) (state end : MachineState) (n : ℕ) (order : List Op) → length order ≤ n →
    GoesOn image state (drop n order) end → state ≡ end
unfolding state_after
ends_here image state end n order past goes =
    ap (λ (ops : List Op). state_after image state ops) (sym (drop_all n order past)) ∙ goes.leads
