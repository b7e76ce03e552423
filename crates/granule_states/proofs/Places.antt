-- Places past the end of a list.
use Rattle.std.proofs.Common.{◌≡◌, ℕ, zero, suc, ◌≤◌, List, [], ◌∷◌, length, arith, refl}
use Rattle.std.specs.Prelude.{Bool, true, slice_index_or, slice_set}
use Rattle.granule_states.specs.Graphs.{is_shared}

pub past_end : {A : Type 0} (xs : List A) (i : ℕ) (other : A) → length xs ≤ i → slice_index_or xs i other ≡ other
past_end [] i other past = refl
past_end (x ∷ xs) zero other past = absurd (omega arith)
past_end (x ∷ xs) (suc i) other past = past_end xs i other (omega arith)

-- one granule more is shared
pub shared_more : (shared : List Bool) (granule other : ℕ) → is_shared shared other ≡ true →
    is_shared (slice_set shared granule true) other ≡ true
unfolding is_shared
shared_more [] granule other is = is
shared_more (x ∷ shared) zero zero is = refl
shared_more (x ∷ shared) zero (suc other) is = is
shared_more (x ∷ shared) (suc granule) zero is = is
shared_more (x ∷ shared) (suc granule) (suc other) is = shared_more shared granule other is
