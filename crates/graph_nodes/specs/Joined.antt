-- Rows that are added one after another, each unless it is there.
use Rattle.std.specs.Prelude.{◌≡◌, ◌≢◌, ℕ, zero, suc, List, [], ◌∷◌, ◌++◌, slice_get, slice_index_or, Option, Some, None, Bool, true, false, if◌then◌else◌}
use Rattle.interner.specs.Rows.{row_at}

-- the row of target k, if it is one: there is a row for each, as wide as nodes are
abbrev pub target_at : ℕ → List Bool → List ℕ → ℕ → Option (List ℕ)
target_at width leads rows k = if slice_index_or leads k false then Some (row_at width rows k) else None

-- the first n targets
unfoldable pub targets_of : ℕ → List Bool → List ℕ → ℕ → List (Option (List ℕ))
targets_of width leads rows zero = []
targets_of width leads rows (suc n) = targets_of width leads rows n ++ target_at width leads rows n ∷ []

-- the rows after targets were added, each unless it was there; for each, whether it was new
unfoldable pub AreJoined : List (Option (List ℕ)) → List Bool → List (List ℕ) → List (List ℕ) → Type 0
AreJoined [] [] old new = new ≡ old
AreJoined (None ∷ targets) (fresh ∷ more) old new = (fresh ≡ false) × AreJoined targets more old new
AreJoined (Some row ∷ targets) (true ∷ more) old new =
    ((i : ℕ) → slice_get old i ≢ Some row) × AreJoined targets more (old ++ row ∷ []) new
AreJoined (Some row ∷ targets) (false ∷ more) old new =
    ((i : ℕ) × (slice_get old i ≡ Some row)) × AreJoined targets more old new
AreJoined [] (fresh ∷ more) old new = ⊥
AreJoined (target ∷ targets) [] old new = ⊥
