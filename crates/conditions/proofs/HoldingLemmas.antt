-- Whether a condition holds, by its parts; and registers one after another: whether one of those that
-- are left grants what is asked.
use Rattle.std.proofs.Common.{◌≡◌, ℕ, suc, ◌+◌, ◌-◌, ◌<◌, ◌≤◌, ◌||◌, Bool, true, false, refl, sym, ap, ◌∙◌, arith, length}
use Rattle.cap_model.specs.declared.perms.Perms.{Perms}
use Rattle.cap_model.specs.values.CapValue.{CapValue}
use Rattle.cheri_model.specs.steps.Hart.{HartState, register}
use Rattle.std.proofs.Common.{List, not, ◌+◌, if◌then◌else◌}
use Rattle.std.specs.Borrow.{Bor}
use Rattle.std.specs.Prelude.{Some}
use Rattle.cheri_model.specs.runs.Machine.{MachineState}
use Rattle.conditions.specs.declared.parts.Atom.{Atom}
use Rattle.conditions.specs.declared.parts.Comparison.{Comparison}
use Rattle.conditions.specs.declared.parts.Joint.{Joint}
use Rattle.conditions.specs.declared.parts.Joint.TheVariants.{And, Or}
use Rattle.conditions.specs.declared.entries.Entry.{Entry}
use Rattle.conditions.specs.declared.formulas.Parts.TheVariants as parts
use Rattle.conditions.specs.Formulas.{Formula}
use Rattle.conditions.specs.Entries.{entries_of}
use Rattle.conditions.specs.Holding.{joined, decides, how_many, is_so}
use Rattle.conditions.specs.Parts.{IsParted}
use Rattle.conditions.specs.Values.{compares, atom_holds, grants, registers_grant}
use Rattle.conditions.proofs.PartLemmas.{is_said, is_denied, is_enclosed, is_joined, is_counted}

module _ (addr : ℕ) (perms : Perms) (hart : HartState) where
  this_or_next : (number : ℕ) → number < 32 → registers_grant addr perms hart number (32 - number) ≡ (grants addr perms (register hart number) || registers_grant addr perms hart (number + 1) (32 - (number + 1)))
  unfolding registers_grant
  this_or_next number low =
      let more : 32 - number ≡ suc (32 - (number + 1)) = omega arith in rw more refl

  pub grant_found : (number : ℕ) (held : CapValue) (total : Bool) → number < 32 → held ≡ register hart number → grants addr perms held ≡ true
      → registers_grant addr perms hart number (32 - number) ≡ total → true ≡ total
  grant_found number held total low same grant h =
      let here : grants addr perms (register hart number) ≡ true = ap (grants addr perms) (sym same) ∙ grant in
      sym (rw here at (this_or_next number low)) ∙ h

  pub grant_next : (number : ℕ) (held : CapValue) (total : Bool) → number < 32 → held ≡ register hart number → grants addr perms held ≡ false
      → registers_grant addr perms hart number (32 - number) ≡ total → registers_grant addr perms hart (number + 1) (32 - (number + 1)) ≡ total
  grant_next number held total low same grant h =
      let here : grants addr perms (register hart number) ≡ false = ap (grants addr perms) (sym same) ∙ grant in
      sym (rw here at (this_or_next number low)) ∙ h

  pub grant_none : (number : ℕ) (total : Bool) → 32 ≤ number → registers_grant addr perms hart number (32 - number) ≡ total → false ≡ total
  unfolding registers_grant
  grant_none number total high h =
      let none : 32 - number ≡ 0 = omega arith in rw none at h

-- ---- a condition by its parts

-- one answer that decides, or the other one
pub first_decides : (joint : Joint) (x y : Bool) → decides joint y ≡ true → y ≡ joined joint x y
unfolding joined decides
first_decides And true true is = refl
first_decides And false true is = absurd (cc)
first_decides And true false is = refl
first_decides And false false is = refl
first_decides Or true true is = refl
first_decides Or false true is = refl
first_decides Or true false is = absurd (cc)
first_decides Or false false is = absurd (cc)

pub other_decides : (joint : Joint) (x y : Bool) → decides joint y ≡ false → x ≡ joined joint x y
unfolding joined decides
other_decides And true true is = refl
other_decides And false true is = refl
other_decides And true false is = absurd (cc)
other_decides And false false is = absurd (cc)
other_decides Or true true is = absurd (cc)
other_decides Or false true is = absurd (cc)
other_decides Or true false is = refl
other_decides Or false false is = refl

module _ (state : MachineState) (each : ℕ) (formula : Formula) where
  pub so_said : (a : Bor Atom) (answer : Bool) → IsParted formula (Some (parts.Says a)) → answer ≡ atom_holds state each a.now → answer ≡ is_so state each formula
  unfolding is_so
  so_said a answer is holds = holds ∙ ap (is_so state each) (sym (is_said formula a is))

  pub so_denied : (p : Bor (List Entry)) (answer : Bool) → IsParted formula (Some (parts.Not p))
      → ((f : Formula) → p.now ≡ entries_of f → answer ≡ is_so state each f) → not answer ≡ is_so state each formula
  unfolding is_so
  so_denied p answer is holds =
      let of = is_denied formula p is in
      ap not (holds of.0 of.2) ∙ ap (is_so state each) (sym of.1)

  pub so_enclosed : (p : Bor (List Entry)) (answer : Bool) → IsParted formula (Some (parts.Enclosed p))
      → ((f : Formula) → p.now ≡ entries_of f → answer ≡ is_so state each f) → answer ≡ is_so state each formula
  unfolding is_so
  so_enclosed p answer is holds =
      let of = is_enclosed formula p is in
      holds of.0 of.2 ∙ ap (is_so state each) (sym of.1)

  pub so_decided : (joint : Joint) (p q : Bor (List Entry)) (answer : Bool) → IsParted formula (Some (parts.Joined joint p q))
      → ((f : Formula) → q.now ≡ entries_of f → answer ≡ is_so state each f) → decides joint answer ≡ true → answer ≡ is_so state each formula
  unfolding is_so
  so_decided joint p q answer is holds decided =
      let of = is_joined formula joint p q is in
      first_decides joint (is_so state each of.0) answer decided
      ∙ ap (λ b. joined joint (is_so state each of.0) b) (holds of.1 of.4) ∙ ap (is_so state each) (sym of.2)

  pub so_joined : (joint : Joint) (p q : Bor (List Entry)) (first answer : Bool) → IsParted formula (Some (parts.Joined joint p q))
      → ((f : Formula) → q.now ≡ entries_of f → answer ≡ is_so state each f) → decides joint answer ≡ false
      → ((f : Formula) → p.now ≡ entries_of f → first ≡ is_so state each f) → first ≡ is_so state each formula
  unfolding is_so
  so_joined joint p q first answer is holds undecided first_holds =
      let of = is_joined formula joint p q is in
      first_holds of.0 of.3
      ∙ other_decides joint (is_so state each of.0) answer undecided
      ∙ ap (λ b. joined joint (is_so state each of.0) b) (holds of.1 of.4) ∙ ap (is_so state each) (sym of.2)

  pub so_counted : (p : Bor (List Entry)) (comparison : Comparison) (number many : ℕ) (answer : Bool) → IsParted formula (Some (parts.Counted p comparison number))
      → ((f : Formula) → p.now ≡ entries_of f → many ≡ how_many (λ hart. is_so state hart f) (length state.harts))
      → answer ≡ compares comparison many number → answer ≡ is_so state each formula
  unfolding is_so
  so_counted p comparison number many answer is holds so =
      let of = is_counted formula p comparison number is in
      so ∙ ap (λ n. compares comparison n number) (holds of.0 of.2) ∙ ap (is_so state each) (sym of.1)

-- how many harts of one thing alone
pub many_said : (state : MachineState) (formula : Formula) (a : Bor Atom) (n many : ℕ) → IsParted formula (Some (parts.Says a))
    → many ≡ how_many (λ hart. atom_holds state hart a.now) n → many ≡ how_many (λ hart. is_so state hart formula) n
unfolding is_so
many_said state formula a n many is holds = holds ∙ ap (λ (f : Formula). how_many (λ hart. is_so state hart f) n) (sym (is_said formula a is))

-- how many harts: none, and one more
pub many_none : (p : ℕ → Bool) → 0 ≡ how_many p 0
unfolding how_many
many_none p = refl

pub many_step : (p : ℕ → Bool) (n many more : ℕ) (holds : Bool) → many ≡ how_many p n → holds ≡ p n → more ≡ many + (if holds then 1 else 0)
    → more ≡ how_many p (n + 1)
unfolding how_many
many_step p n many more holds is so more_is =
    let next : n + 1 ≡ suc n = omega arith in
    more_is ∙ rw (is, so) refl ∙ ap (how_many p) (sym next)

pub many_bound : (n many more : ℕ) (holds : Bool) → many ≤ n → more ≡ many + (if holds then 1 else 0) → more ≤ n + 1
many_bound n many more true few is = omega (arith, few, is)
many_bound n many more false few is = omega (arith, few, is)

pub many_all : (p : ℕ → Bool) (n many all : ℕ) → many ≡ how_many p n → n ≡ all → many ≡ how_many p all
many_all p n many all is same = is ∙ ap (how_many p) same
