-- Steps that follow one another.
use Rattle.std.proofs.Common.{◌≡◌, inl, inr, Result, Ok, Err, ap}
use Rattle.asm_tokens.specs.declared.fault.AsmFault.{AsmFault}
use Rattle.asm_statements.specs.Drafts.{Parts, Step, ◌>>=◌, next_step, Answers}

pub then_ok : {A B : Type 0} (step : Step A) (next : A → Step B) (p q : Parts) (a : A) → step p ≡ (q, Ok a) → (step >>= next) p ≡ next a q
then_ok {A = A} step next p q a e = ap (λ (r : Parts × Result A AsmFault). next_step r.1 r.0 next) e

pub then_err : {A B : Type 0} (step : Step A) (next : A → Step B) (p q : Parts) (fault : AsmFault) → Answers {A = A} (Err fault) q (step p) → Answers {A = B} (Err fault) q ((step >>= next) p)
then_err {A = A} step next p q fault (inl e) = inl e
then_err {A = A} step next p q fault (inr e) = inr (ap (λ (r : Parts × Result A AsmFault). next_step r.1 r.0 next) e)

-- an answer that is the step's
pub answers : {A : Type 0} (r : Result A AsmFault) (p : Parts) (meaning : Parts × Result A AsmFault) → meaning ≡ (p, r) → Answers r p meaning
answers (Ok a) p meaning e = e
answers (Err fault) p meaning e = inr e
