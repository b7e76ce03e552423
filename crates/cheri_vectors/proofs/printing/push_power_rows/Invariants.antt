use Rattle.std.proofs.Common.{◌≡◌, ◌++◌, string_bytes}
use Rattle.cheri_vectors.specs.Texts.{rows_below}
use Rattle.cheri_vectors.specs.Ranges.{power_row}
use Rattle.cheri_vectors.proofs.printing.push_power_rows.Given as goal

abbrev pub invariant-loop-n : goal.invariant-loop-n
invariant-loop-n l = string_bytes l.out ≡ string_bytes l.initial.out ++ rows_below power_row l.n
