-- The names of permissions, one after another.
use Rattle.std.specs.Prelude.{ℕ, ◌==◌, Bool, true, if◌then◌else◌, List, [], ◌∷◌, ◌++◌, codes}
use Rattle.std.specs.Prelude.{bit_and}
use Rattle.notation.specs.Instructions.{◌+++◌}

-- the names of a table whose bits are all in a set, with `+` before each but the first
unfoldable pub joined_text : Bool → ℕ → List (List ℕ × ℕ) → List ℕ
joined_text begun perms [] = []
joined_text begun perms (row ∷ rows) =
    if bit_and perms row.1 == row.1 then
    (if begun then codes "+" else []) +++ row.0 +++ joined_text true perms rows
    else joined_text begun perms rows
