-- A graph for tests: a table with two targets for each number. A target is 0 where there is none,
-- else one more than a number.
use Rattle.std.specs.Prelude.{◌≡◌, ℕ, zero, suc, ◌+◌, ◌*◌, ◌≤◌, List, [], ◌∷◌, Option}
use Rattle.std.specs.Prelude.{Some, None, slice_index, nat_lt, if◌then◌else◌}
use Rattle.std.proofs.Common.{sym, ap, ◌∙◌, arith}
use Rattle.std.proofs.lemmas.Bool.Decides.{nat_tests}
use Rattle.std.proofs.lemmas.Option.{none-some, same_Some}

-- the number that a row is
abbrev pub number_of : List ℕ → Option ℕ
number_of [] = None
number_of (n ∷ []) = Some n
number_of (n ∷ m ∷ ms) = None

-- what a target means
abbrev pub target_of : ℕ → Option ℕ
target_of zero = None
target_of (suc n) = Some n

-- where a label leads
abbrev pub routed : List ℕ → ℕ → ℕ → Option ℕ
routed targets n l = if nat_lt l 2 then target_of (slice_index targets (n * 2 + l)) else None

-- a number is one row
pub number_of_one : (m n : List ℕ) (s : ℕ) → number_of m ≡ Some s → number_of n ≡ Some s → m ≡ n
number_of_one [] n s one two = absurd (none-some s one)
number_of_one (x ∷ y ∷ ys) n s one two = absurd (none-some s one)
number_of_one (x ∷ []) [] s one two = absurd (none-some s two)
number_of_one (x ∷ []) (z ∷ w ∷ ws) s one two = absurd (none-some s two)
number_of_one (x ∷ []) (z ∷ []) s one two =
    ap (λ (k : ℕ). k ∷ []) (same_Some x s one ∙ sym (same_Some z s two))

-- there are two labels
pub routed_beyond : (targets : List ℕ) (s l : ℕ) → 2 ≤ l → routed targets s l ≡ None
routed_beyond targets s l past = grind (arith, nat_tests)
