-- How many of a list are so.
use Rattle.std.proofs.Common.{◌≡◌, ℕ, suc, ◌+◌, ◌≤◌, List, [], ◌∷◌, ◌++◌, length, refl, arith, inl, inr}
use Rattle.std.specs.Prelude.{slice_get, Some}
use Rattle.outcomes.specs.Rows.{IsCount}

-- one more that is so
pub count_so : (IsSo : ℕ → Type 0) (xs : List ℕ) (x n : ℕ) → IsCount IsSo xs n → IsSo x → IsCount IsSo (xs ++ x ∷ []) (n + 1)
count_so IsSo [] x n is so = inl (so, (0, omega (arith, is), refl))
count_so IsSo (y ∷ xs) x n (inl h) so =
    inl (h.0, (h.1.0 + 1, omega (arith, h.1.1), count_so IsSo xs x h.1.0 h.1.2 so))
count_so IsSo (y ∷ xs) x n (inr h) so = inr (h.0, count_so IsSo xs x n h.1 so)

-- one more that is not
pub count_other : (IsSo : ℕ → Type 0) (xs : List ℕ) (x n : ℕ) → IsCount IsSo xs n → ¬ IsSo x → IsCount IsSo (xs ++ x ∷ []) n
count_other IsSo [] x n is other = inr (other, is)
count_other IsSo (y ∷ xs) x n (inl h) other = inl (h.0, (h.1.0, h.1.1, count_other IsSo xs x h.1.0 h.1.2 other))
count_other IsSo (y ∷ xs) x n (inr h) other = inr (h.0, count_other IsSo xs x n h.1 other)

-- none is so
pub count_none : (IsSo : ℕ → Type 0) (xs : List ℕ) → ((k x : ℕ) → slice_get xs k ≡ Some x → ¬ IsSo x) → IsCount IsSo xs 0
count_none IsSo [] none = refl
count_none IsSo (y ∷ xs) none = inr (none 0 y refl, count_none IsSo xs (λ k x at. none (suc k) x at))

-- at most all are so
pub count_most : (IsSo : ℕ → Type 0) (xs : List ℕ) (n : ℕ) → IsCount IsSo xs n → n ≤ length xs
count_most IsSo [] n is = omega (arith, is)
count_most IsSo (y ∷ xs) n (inl h) = omega (arith, h.1.1, count_most IsSo xs h.1.0 h.1.2)
count_most IsSo (y ∷ xs) n (inr h) = omega (arith, count_most IsSo xs n h.1)

-- what is so in other words
pub count_as : (IsSo IsToo : ℕ → Type 0) (xs : List ℕ) (n : ℕ) → ((x : ℕ) → IsSo x → IsToo x) → ((x : ℕ) → IsToo x → IsSo x)
    → IsCount IsSo xs n → IsCount IsToo xs n
count_as IsSo IsToo [] n to from is = is
count_as IsSo IsToo (y ∷ xs) n to from (inl h) =
    inl (to y h.0, (h.1.0, h.1.1, count_as IsSo IsToo xs h.1.0 to from h.1.2))
count_as IsSo IsToo (y ∷ xs) n to from (inr h) = inr (λ so. h.0 (from y so), count_as IsSo IsToo xs n to from h.1)
