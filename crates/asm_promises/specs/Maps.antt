-- Names of files that maps can tell.
use Rattle.std.specs.Prelude.{◌≡◌, ℕ, ◌==◌, true, false, List}
use Rattle.std.specs.List.{All}
use Rattle.std.specs.Str.{is_utf8}

-- a text without a newline
abbrev pub IsFileText : List ℕ → Type 0
IsFileText text = (is_utf8 text ≡ true) × All (λ b. (b == 0x0A) ≡ false) text
