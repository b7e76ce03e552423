-- Rows of the graph for tests.
use Rattle.std.proofs.Common.{◌≡◌, ℕ, List, [], ◌∷◌, length, set, arith, refl}
use Rattle.std.specs.Prelude.{Some}
use Rattle.graph_tests.specs.Tables.{number_of}

pub number_of_set : (row : List ℕ) (n : ℕ) → length row ≡ 1 → number_of (set row 0 n) ≡ Some n
number_of_set [] n one = absurd (omega arith)
number_of_set (x ∷ []) n one = refl
number_of_set (x ∷ y ∷ ys) n one = absurd (omega arith)
