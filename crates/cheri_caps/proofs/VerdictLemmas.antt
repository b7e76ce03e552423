-- Verdicts of tables, a line at a time.
use Rattle.std.proofs.Common.{◌≡◌, ℕ, Bool, true, false, List, [], ◌∷◌, refl, sym, ap, ◌∙◌}
use Rattle.std.specs.Prelude.{Result, Ok, Err}
use Rattle.cheri_model.specs.declared.trace.Trap.{Trap}
use Rattle.cheri_model.specs.steps.Checks.{CheckLine, check_line, first_failing}

-- a line that passes alone leaves the verdict to the rest
pub line_passes : (fails : Bool) (cause reg : ℕ) (rest : List CheckLine) →
    first_failing (check_line fails cause reg ∷ []) ≡ Ok tt →
    first_failing (check_line fails cause reg ∷ rest) ≡ first_failing rest
unfolding first_failing
line_passes false cause reg rest passes = refl
line_passes true cause reg rest passes = cc

-- a line that fails alone is the verdict
pub line_fails : (fails : Bool) (cause reg : ℕ) (trap : Trap) (rest : List CheckLine) →
    first_failing (check_line fails cause reg ∷ []) ≡ Err trap →
    first_failing (check_line fails cause reg ∷ rest) ≡ Err trap
unfolding first_failing
line_fails false cause reg trap rest fails = cc
line_fails true cause reg trap rest fails = fails

-- a line whose test has another name passes where the verdict on it does
pub passes_as : (test fails : Bool) (cause reg : ℕ) (verdict : Result (Unit {0}) Trap) →
    verdict ≡ first_failing (check_line test cause reg ∷ []) → test ≡ fails → verdict ≡ Ok tt →
    first_failing (check_line fails cause reg ∷ []) ≡ Ok tt
passes_as test fails cause reg verdict is same passes =
    ap (λ (b : Bool). first_failing (check_line b cause reg ∷ [])) (sym same) ∙ sym is ∙ passes

pub ruleset table_steps = (line_passes, line_fails)
