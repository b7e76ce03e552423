-- The lines so far and those of the other places are those of all.
use Rattle.std.proofs.Common.{◌≡◌, ◌++◌, drop, string_bytes}
use Rattle.explanations.specs.FactLines.{swept_lines}
use Rattle.explanations.proofs.text.write_places.Given as goal

abbrev pub invariant-loop-place : goal.invariant-loop-place
invariant-loop-place l =
    string_bytes l.out ++ swept_lines (drop l.place-index l.places) ≡ string_bytes l.initial.out ++ swept_lines l.places
