-- In which part a row is kept: a function of the row and of the number of parts alone.
use Rattle.std.specs.Prelude.{ℕ, ◌+◌, ◌*◌, ◌/◌, ◌%◌, ◌^◌, List, [], ◌∷◌}
use Rattle.graph_nodes.specs.declared.homes.TheConstants.{FACTOR}

-- the hash after more numbers
unfoldable pub hash_from : ℕ → List ℕ → ℕ
hash_from hash [] = hash
hash_from hash (number ∷ row) = hash_from ((hash + number) % 2 ^ 32 * FACTOR % 2 ^ 32) row

-- the part of a row, of so many
unfoldable pub home_of : ℕ → List ℕ → ℕ
home_of parts row = hash_from 0 row / 2 ^ 16 % parts
