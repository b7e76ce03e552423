-- The lines so far, followed by those of the other items, are those of all.
use Rattle.std.proofs.Common.{◌≡◌, ◌++◌, drop, string_bytes}
use Rattle.canonical.specs.Canon.{each, program_line}
use Rattle.canonical.proofs.writer.write_instructions.Given as goal

abbrev pub invariant-loop-instr : goal.invariant-loop-instr
invariant-loop-instr l =
    string_bytes l.out ++ each program_line (drop l.instr-index l.program) ≡ string_bytes l.initial.out ++ each program_line l.program
