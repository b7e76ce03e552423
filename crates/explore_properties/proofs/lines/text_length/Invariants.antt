-- the bytes so far are as many, and those to come more
use Rattle.std.proofs.Common.{◌≡◌, ◌≤◌, length, drop}
use Rattle.explore_properties.specs.Lines.{text_length}
use Rattle.explore_properties.proofs.LineLemmas.{with_rest}
use Rattle.explore_properties.proofs.lines.text_length.Given as goal

abbrev pub invariant-loop-place : goal.invariant-loop-place
invariant-loop-place l =
    (with_rest l.place l.end (text_length (drop l.place l.line)) ≡ text_length l.line) × (l.end ≤ l.place)
