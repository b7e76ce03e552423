-- the place that the symbol so far stands for
use Rattle.std.proofs.Common.{◌≡◌}
use Rattle.asm_symbols.specs.Names.{names_of}
use Rattle.asm_files.specs.Programs.{program_parts}
use Rattle.asm_tables.specs.Names.{behind}
use Rattle.asm_tables.proofs.names.behind.Given as goal

abbrev pub invariant-loop-left : goal.invariant-loop-left
invariant-loop-left l =
    behind (program_parts l.program) (names_of l.seen) l.left l.symbol
    ≡ behind (program_parts l.program) (names_of l.seen) l.most l.initial.symbol

abbrev pub decreases-loop-left : goal.decreases-loop-left
decreases-loop-left l = l.left
