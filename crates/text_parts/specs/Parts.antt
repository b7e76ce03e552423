-- A text parted at a mark.
use Rattle.std.specs.Prelude.{ℕ, ◌+◌, ◌==◌, List, take, drop, position, Option, option_map}
use Rattle.std.specs.Borrow.{Bor}

abbrev pub both_parts : Bor (List ℕ) × Bor (List ℕ) → List ℕ × List ℕ
both_parts parts = (parts.0.now, parts.1.now)

-- what is before the first mark, and what is behind it
unfoldable pub parted : ℕ → List ℕ → Option (List ℕ × List ℕ)
parted mark text =
    option_map (λ at. (take at text, drop (at + 1) text)) (position (λ b. b == mark) text)
