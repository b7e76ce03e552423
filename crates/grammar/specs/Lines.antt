-- The lines of a listing (this project's own format).
use Rattle.std.specs.Prelude.{ℕ, ◌==◌, nat_le, Bool, ◌&&◌, ◌||◌, List}
use Rattle.std.specs.List.{slice_split, before_first}

-- newlines separate lines
abbrev pub lines_of : List ℕ → List (List ℕ)
lines_of text = slice_split (λ b. b == 0x0A) text

-- a tab, or a printing byte
abbrev pub is_plain : ℕ → Bool
is_plain b = (b == 0x09) || (nat_le 0x20 b && nat_le b 0x7E)

-- a line without its comment, which begins at the first `#`
abbrev pub before_comment : List ℕ → List ℕ
before_comment line = before_first (λ b. b == 0x23) line
