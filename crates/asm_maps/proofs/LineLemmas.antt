-- The lines so far, and those that are left.
use Rattle.std.proofs.Common.{◌≡◌, ℕ, ◌+◌, ◌<◌, ◌≤◌, List, [], ◌∷◌, ◌++◌, length, drop, get_or, append_assoc, append-nil, drop-cons, add-one}
use Rattle.std.specs.Prelude.{codes}
use Rattle.std.proofs.Math.ListN.{drop_of_length-le}
use Rattle.asm_maps.specs.declared.line.MapLine.{MapLine}
use Rattle.asm_maps.specs.Maps.{line_text, lines_text}

-- one line more is written
pub line_written : (lines : List MapLine) (place : ℕ) (d line : MapLine) (before after all : List ℕ)
    → place < length lines → line ≡ get_or lines place d → after ≡ before ++ (line_text line ++ codes "\n")
    → before ++ lines_text (drop place lines) ≡ all
    → after ++ lines_text (drop (place + 1) lines) ≡ all
unfolding lines_text
line_written lines place d line before after all room here written whole =
    let next : drop place lines ≡ get_or lines place d ∷ drop (place + 1) lines = rw add-one (drop-cons lines place d room) in
    rw (written, here, append_assoc, append_assoc) (rw next at whole)

pub lines_end : (lines : List MapLine) (place : ℕ) (before all : List ℕ) → length lines ≤ place
    → before ++ lines_text (drop place lines) ≡ all → before ≡ all
unfolding lines_text
lines_end lines place before all ended whole =
    let none : drop place lines ≡ [] = drop_of_length-le lines ended in
    rw append-nil at (rw none at whole)
