-- Items at their places.
use Rattle.std.specs.Prelude.{ℕ, ◌+◌, List, [], ◌∷◌, slice_set}

-- items in the place of others, from a number on; what would lie behind the last one is not there
unfoldable pub overwritten : {A : Type 0} → List A → ℕ → List A → List A
overwritten items at [] = items
overwritten items at (x ∷ rest) = overwritten (slice_set items at x) (at + 1) rest
