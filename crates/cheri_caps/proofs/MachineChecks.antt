-- The checks of C are the machine's, where the ranges are the machine's.
use Rattle.std.proofs.Common.{◌≡◌, ◌%◌, ◌==◌, ℕ, arith, Bool, true, false, not, List, [], ◌∷◌, refl, ap}
use Rattle.std.specs.Prelude.{Option, length}
use Rattle.std.proofs.lemmas.Bool.Decides.{nat_tests}
use Rattle.cap_model.specs.values.CapValue.{CapValue}
use Rattle.cap_model.specs.results.Addresses.{address_of}
use Rattle.cheri_model.specs.declared.access.Access.{Access}
use Rattle.cheri_model.specs.declared.trace.TheConstants.Trap as cause
use Rattle.cheri_model.specs.steps.Checks.{CheckLine, check_line, first_failing, fetch_table, access_table, is_in_code}
use Rattle.cheri_caps.specs.Checks.{access_checks, fetch_checks, code_range, ram_range, is_in_range}

pub access_same : (auth : CapValue) (reg addr : ℕ) (kind : Access) (stored : Option CapValue) (granules : List CapValue) →
    access_checks auth reg addr kind stored (ram_range (length granules)) ≡ access_table auth reg addr kind stored granules
unfolding access_checks access_table
access_same auth reg addr kind stored granules = refl

-- an aligned address is an instruction's where its four bytes lie in the code
pub code_same : (count addr : ℕ) → (addr % 4 == 0) ≡ true → is_in_range (code_range count) addr 4 ≡ is_in_code count addr
code_same count addr aligned = grind (arith, nat_tests)

-- the last line alone differs, and counts only where the address is aligned
last_same : (aligned : Bool) (code_in code_at : Bool) → (aligned ≡ true → code_in ≡ code_at) →
    first_failing (check_line (not aligned) cause.ALIGNMENT cause.PCC ∷ check_line (not code_in) cause.FETCH cause.PCC ∷ [])
    ≡ first_failing (check_line (not aligned) cause.ALIGNMENT cause.PCC ∷ check_line (not code_at) cause.FETCH cause.PCC ∷ [])
unfolding first_failing
last_same true code_in code_at same =
    ap (λ (b : Bool). first_failing (check_line (not b) cause.FETCH cause.PCC ∷ [])) (same refl)
last_same false code_in code_at same = refl

-- a line before both changes nothing
pub line_same : (fails : Bool) (cause reg : ℕ) (xs ys : List CheckLine) → first_failing xs ≡ first_failing ys →
    first_failing (check_line fails cause reg ∷ xs) ≡ first_failing (check_line fails cause reg ∷ ys)
unfolding first_failing
line_same false cause reg xs ys same = same
line_same true cause reg xs ys same = refl

pub fetch_same : (pcc : CapValue) (count : ℕ) → first_failing (fetch_checks pcc (code_range count)) ≡ first_failing (fetch_table pcc count)
unfolding fetch_checks fetch_table
fetch_same pcc count =
    line_same _ _ _ _ _ (line_same _ _ _ _ _ (line_same _ _ _ _ _ (line_same _ _ _ _ _
    (last_same _ _ _ (λ aligned. code_same count (address_of pcc) aligned)))))
