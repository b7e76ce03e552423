-- The lines so far, followed by those of the other registers, are those of all.
use Rattle.std.proofs.Common.{◌≡◌, ◌+◌, ◌++◌, drop, string_bytes}
use Rattle.canonical.specs.Canon.{register_lines}
use Rattle.canonical.proofs.writer.write_registers.Given as goal

abbrev pub invariant-loop-place : goal.invariant-loop-place
invariant-loop-place l =
    string_bytes l.out ++ register_lines (l.place + 1) (drop l.place l.values) ≡ string_bytes l.initial.out ++ register_lines 1 l.values
