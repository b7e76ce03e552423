-- How the code gathers what is asked for.
use Rattle.std.proofs.Common.{◌≡◌, ℕ, ◌+◌, ◌<◌, ◌≤◌, length, get_or, List, take, refl, sym, ap, ◌∙◌, arith, inl, inr}
use Rattle.std.specs.Prelude.{Bool, true, false, ◌==◌, ◌||◌, nat_lt, slice_set}
use Rattle.std.specs.List.{list_any}
use Rattle.std.proofs.lemmas.Bool.{cases_lt, cases_eq, or_right, ne_eqb, eq-eqb}
use Rattle.std.proofs.lemmas.List.{take_all, get_or_past, get_or-set_same, get_or-set_other, length-set}
use Rattle.std.proofs.lemmas.List.Folds.{list_any_more}
use Rattle.std.proofs.lemmas.Bool.Decides.{nat_tests}
use Rattle.live_registers.specs.RegisterSets.{has}
use Rattle.asked_registers.specs.Asked.{IsWith}

or_none : (x y : Bool) → y ≡ false → x ≡ (x || y)
or_none true y is = refl
or_none false y is = sym is

or_three : (x y z : Bool) → ((x || y) || z) ≡ (x || (y || z))
or_three true y z = refl
or_three false y z = refl

set_at : (set : List Bool) (reg : ℕ) → get_or (slice_set set reg true) reg true ≡ true
set_at set reg = elim (cases_lt reg (length set)) [
  | inl inside ↦ get_or-set_same set reg true true inside
  | inr outside ↦ get_or_past (slice_set set reg true) reg true (rw (length-set set reg true) outside)
]

-- one register more
pub with_one : (set : List Bool) (named : ℕ) → IsWith set (λ reg. reg == named) (slice_set set named true)
with_one set named reg = elim (cases_eq reg named) [
  | inl same ↦
      rw same
      (or_right (named == 0) _ (set_at set named)
      ∙ sym (or_right (has set named) (named == named) (eq-eqb named named refl)))
  | inr other ↦
      ap (λ (b : Bool). (reg == 0) || b) (get_or-set_other set named reg true true other)
      ∙ or_none (has set reg) (reg == named) (ne_eqb reg named other)
]

-- first what one asks for, then what another does
pub with_both : (first second third : List Bool) (one other : ℕ → Bool) → IsWith first one second →
    IsWith second other third → IsWith first (λ reg. one reg || other reg) third
with_both first second third one other left right reg =
    right reg ∙ ap (λ (b : Bool). b || other reg) (left reg) ∙ or_three (has first reg) (one reg) (other reg)

-- ---- loops: all registers below a number, the first nodes, the first items

below_next : (reg number : ℕ) → (nat_lt reg number || (reg == number)) ≡ nat_lt reg (number + 1)
below_next reg number = elim (cases_lt reg number) [
  | inl below ↦
      let now : nat_lt reg number ≡ true = grind (arith, nat_tests) in
      let next : nat_lt reg (number + 1) ≡ true = grind (arith, nat_tests) in
      rw (now, next) refl
  | inr above ↦
      let now : nat_lt reg number ≡ false = grind (arith, nat_tests) in
      elim (cases_eq reg number) [
        | inl same ↦
            let next : nat_lt reg (number + 1) ≡ true = grind (arith, nat_tests) in
            let this : (reg == number) ≡ true = eq-eqb reg number same in
            rw (now, next, this) refl
        | inr other ↦
            let next : nat_lt reg (number + 1) ≡ false = grind (arith, nat_tests) in
            rw (now, next, ne_eqb reg number other) refl
      ]
]

pub below_none : (set : List Bool) → IsWith set (λ reg. nat_lt reg 0) set
below_none set reg =
    let none : nat_lt reg 0 ≡ false = grind (arith, nat_tests) in
    or_none (has set reg) (nat_lt reg 0) none

pub below_more : (set all more : List Bool) (number : ℕ) → more ≡ slice_set all number true →
    IsWith set (λ reg. nat_lt reg number) all → IsWith set (λ reg. nat_lt reg (number + 1)) more
below_more set all more number is so reg =
    ap (λ (xs : List Bool). has xs reg) is ∙ with_one all number reg
    ∙ ap (λ (b : Bool). b || (reg == number)) (so reg)
    ∙ or_three (has set reg) (nat_lt reg number) (reg == number)
    ∙ ap (λ (b : Bool). has set reg || b) (below_next reg number)

module _ {X : Type 0} (asks : X → ℕ → Bool) where
  pub first_none : (set : List Bool) (xs : List X) → IsWith set (λ reg. list_any (λ x. asks x reg) (take 0 xs)) set
  first_none set xs reg = or_none (has set reg) false refl

  pub first_more : (set some more : List Bool) (xs : List X) (number : ℕ) (default x : X) → number < length xs →
      x ≡ get_or xs number default → IsWith set (λ reg. list_any (λ y. asks y reg) (take number xs)) some →
      IsWith some (asks x) more → IsWith set (λ reg. list_any (λ y. asks y reg) (take (number + 1) xs)) more
  first_more set some more xs number default x inside is so now reg =
      now reg ∙ ap (λ (b : Bool). b || asks x reg) (so reg)
      ∙ or_three (has set reg) (list_any (λ y. asks y reg) (take number xs)) (asks x reg)
      ∙ ap (λ (y : X). has set reg || (list_any (λ z. asks z reg) (take number xs) || asks y reg)) is
      ∙ ap (λ (b : Bool). has set reg || b) (sym (list_any_more (λ y. asks y reg) xs number default inside))

  pub first_all : (set some : List Bool) (xs : List X) (number : ℕ) → length xs ≤ number →
      IsWith set (λ reg. list_any (λ x. asks x reg) (take number xs)) some → IsWith set (λ reg. list_any (λ x. asks x reg) xs) some
  first_all set some xs number past so reg =
      so reg ∙ ap (λ (ys : List X). has set reg || list_any (λ x. asks x reg) ys) (take_all number xs past)
