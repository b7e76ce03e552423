-- Verdicts of tables, and tables line by line.
use Rattle.std.proofs.Common.{◌≡◌, List, ◌∷◌, sym}
use Rattle.std.specs.Prelude.{Result, Ok, Err, OnOk}
use Rattle.cheri_model.specs.declared.trace.Trap.{Trap}
use Rattle.cheri_model.specs.steps.Checks.{CheckLine}

-- what holds where a table passes holds of a verdict that is Ok
pub on_ok : (P : Type 0) (r v : Result (Unit {0}) Trap) → r ≡ v → (v ≡ Ok tt → P) → OnOk r P
on_ok P (Ok u) v is passes = passes (sym is)
on_ok P (Err trap) v is passes = tt

-- tables with equal lines are equal
pub cons_same : {x y : CheckLine} {xs ys : List CheckLine} → x ≡ y → xs ≡ ys → (x ∷ xs) ≡ (y ∷ ys)
cons_same p q i = p i ∷ q i
