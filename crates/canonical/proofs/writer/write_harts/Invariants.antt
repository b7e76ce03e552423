-- The lines so far, followed by those of the other items, are those of all.
use Rattle.std.proofs.Common.{◌≡◌, ◌++◌, drop, string_bytes}
use Rattle.canonical.specs.Canon.{each, hart_lines}
use Rattle.canonical.proofs.writer.write_harts.Given as goal

abbrev pub invariant-loop-hart : goal.invariant-loop-hart
invariant-loop-hart l =
    string_bytes l.out ++ each hart_lines (drop l.hart-index l.harts) ≡ string_bytes l.initial.out ++ each hart_lines l.harts
