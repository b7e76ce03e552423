-- Tables by name.
use Rattle.std.specs.Prelude.{ℕ, if◌then◌else◌, List, [], ◌∷◌, Option, Some, None, bytes_eq, map}
use Rattle.std.specs.Borrow.{Bor}

-- what a table has at a text
unfoldable pub found_at : {T : Type 0} → List (List ℕ × T) → List ℕ → Option T
found_at [] token = None
found_at (row ∷ rows) token = if bytes_eq row.0 token then Some row.1 else found_at rows token

-- the texts and values of a table in memory
abbrev pub rows_of : {T : Type 0} → List (Bor (List ℕ) × T) → List (List ℕ × T)
rows_of table = map (λ row. (row.0.now, row.1)) table
