-- those of the files so far
use Rattle.std.proofs.Common.{◌≡◌}
use Rattle.asm_files.specs.Programs.{program_parts}
use Rattle.asm_links.specs.Sizes.{files_sizes, no_sizes}
use Rattle.asm_links.proofs.sizes.first_sizes.Given as goal

abbrev pub invariant-loop-number : goal.invariant-loop-number
invariant-loop-number l =
    l.sizes.items ≡ files_sizes (program_parts l.program) l.number (no_sizes (program_parts l.program))
