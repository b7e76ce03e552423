-- The lines of a file of slices.
use Rattle.std.specs.Prelude.{ℕ, ◌==◌, if◌then◌else◌, List, [], ◌∷◌}
use Rattle.std.specs.List.{onto_first}

-- A newline ends each line; the last one may lack it.
unfoldable pub slice_lines : List ℕ → List (List ℕ)
slice_lines [] = []
slice_lines (byte ∷ text) =
    if byte == 0x0A then [] ∷ slice_lines text else onto_first byte (slice_lines text)
