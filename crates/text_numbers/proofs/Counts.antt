-- Where as many items pass from the first on as there are, all pass.
use Rattle.std.proofs.Common.{◌≡◌, ℕ, suc, ◌==◌, Bool, false, inl, inr, List, [], ◌∷◌, length, refl, arith, ◌∙◌}
use Rattle.std.proofs.lemmas.Bool.{cases_Bool}
use Rattle.std.proofs.lemmas.Bool.Decides.{nat_tests}
use Rattle.std.proofs.Math.Numerals.{one-add}
use Rattle.std.specs.List.{list_all, take_while}

same_suc : (a b : ℕ) → (suc a == suc b) ≡ (a == b)
same_suc a b = grind (arith, nat_tests)

not_suc : (n : ℕ) → (0 == suc n) ≡ false
not_suc n = grind (arith, nat_tests)

pub all_taken : (test : ℕ → Bool) (items : List ℕ) → (length (take_while test items) == length items) ≡ list_all test items
all_taken test [] = refl
all_taken test (item ∷ items) = elim (cases_Bool (test item)) [
  | inl passes ↦ rw (passes, one-add) (same_suc _ _ ∙ all_taken test items)
  | inr stops ↦ rw stops (not_suc _)
]
