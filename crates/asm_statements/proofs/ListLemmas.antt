-- Operands with commas between them.
use Rattle.std.proofs.Common.{◌≡◌, ℕ, zero, suc, ◌+◌, ◌-◌, ◌<◌, ◌≤◌, true, false, List, Result, Ok, Err, refl, sym, ap, ◌∙◌, subst, arith}
use Rattle.asm_tokens.specs.declared.fault.AsmFault.{AsmFault}
use Rattle.asm_tokens.specs.Tokens.{TokenParts}
use Rattle.asm_statements.specs.declared.statement.Role.{Role}
use Rattle.asm_statements.specs.Drafts.{Parts, ◌>>=◌, Answers}
use Rattle.asm_statements.specs.Marks.{is_comma, end_at}
use Rattle.asm_statements.specs.Lists.{next_item, listed_more}
use Rattle.asm_statements.proofs.StepLemmas.{then_ok, then_err}

pub listed_end : (n : ℕ) (ts : List TokenParts) (role : Role) (at : ℕ) (p : Parts) → is_comma ts at ≡ false → listed_more n ts role at p ≡ (p, end_at ts at)
unfolding listed_more
listed_end zero ts role at p e = refl
listed_end (suc n) ts role at p e = rw e refl

listed_next : (n : ℕ) (ts : List TokenParts) (role : Role) (at : ℕ) (p : Parts) → is_comma ts at ≡ true
    → listed_more (suc n) ts role at p ≡ (next_item ts role at >>= λ next. listed_more n ts role next) p
unfolding listed_more
listed_next n ts role at p e = rw e refl

-- how many may still come, of so many
pub one_fewer : (n i : ℕ) → i < n → n - i ≡ suc (n - (i + 1))
one_fewer n i below = omega arith

pub listed_turn : (n i : ℕ) (ts : List TokenParts) (role : Role) (at next : ℕ) (p q : Parts) (all : Parts × Result (Unit {0}) AsmFault) → i < n → is_comma ts at ≡ true
    → next_item ts role at p ≡ (q, Ok next) → listed_more (n - i) ts role at p ≡ all → listed_more (n - (i + 1)) ts role next q ≡ all
listed_turn n i ts role at next p q all below comma read now =
    sym (then_ok (next_item ts role at) (λ (k : ℕ). listed_more (n - (i + 1)) ts role k) p q next read)
    ∙ (sym (listed_next (n - (i + 1)) ts role at p comma)
    ∙ (ap (λ (k : ℕ). listed_more k ts role at p) (sym (one_fewer n i below)) ∙ now))

pub listed_fault : (n i : ℕ) (ts : List TokenParts) (role : Role) (at : ℕ) (p q : Parts) (fault : AsmFault) (all : Parts × Result (Unit {0}) AsmFault) → i < n → is_comma ts at ≡ true
    → Answers {A = ℕ} (Err fault) q (next_item ts role at p) → listed_more (n - i) ts role at p ≡ all → Answers {A = Unit {0}} (Err fault) q all
listed_fault n i ts role at p q fault all below comma read now =
    subst (λ (m : Parts × Result (Unit {0}) AsmFault). Answers {A = Unit {0}} (Err fault) q m)
    (sym (listed_next (n - (i + 1)) ts role at p comma)
    ∙ (ap (λ (k : ℕ). listed_more k ts role at p) (sym (one_fewer n i below)) ∙ now))
    (then_err (next_item ts role at) (λ (k : ℕ). listed_more (n - (i + 1)) ts role k) p q fault read)

pub listed_past : (n i : ℕ) (ts : List TokenParts) (role : Role) (at : ℕ) (p : Parts) (all : Parts × Result (Unit {0}) AsmFault) → n ≤ i
    → listed_more (n - i) ts role at p ≡ all → all ≡ (p, end_at ts at)
unfolding listed_more
listed_past n i ts role at p all past now =
    let none : n - i ≡ 0 = omega arith in
    sym now ∙ ap (λ (k : ℕ). listed_more k ts role at p) none
