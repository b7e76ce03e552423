-- What a text begins with, cut off by its length.
use Rattle.std.proofs.Common.{◌≡◌, ℕ, zero, suc, ◌≤◌, Bool, List, [], ◌∷◌, length, take, take_while, refl, ap, arith}
use Rattle.std.proofs.lemmas.List.{length-take}
use Rattle.std.specs.List.{prefix_len}

pub taken_within : (test : ℕ → Bool) (text : List ℕ) → length (take_while test text) ≤ length text
taken_within test text = omega (arith, length-take (prefix_len test text) text)

again : (n : ℕ) (text : List ℕ) → take (length (take n text)) text ≡ take n text
again zero text = refl
again (suc n) [] = refl
again (suc n) (b ∷ text) = ap (λ more. b ∷ more) (again n text)

pub taken_again : (test : ℕ → Bool) (text : List ℕ) → take (length (take_while test text)) text ≡ take_while test text
taken_again test text = again (prefix_len test text) text

-- the first three bytes of fewer
pub all_of_three : (text : List ℕ) → length text ≤ 3 → take 3 text ≡ text
all_of_three [] h = refl
all_of_three (a ∷ []) h = refl
all_of_three (a ∷ b ∷ []) h = refl
all_of_three (a ∷ b ∷ c ∷ []) h = refl
all_of_three (a ∷ b ∷ c ∷ d ∷ text) h = absurd (omega arith)
