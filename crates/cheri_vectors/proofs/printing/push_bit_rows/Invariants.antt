use Rattle.std.proofs.Common.{◌≡◌, ◌++◌, string_bytes}
use Rattle.cheri_vectors.specs.Texts.{rows_below}
use Rattle.cheri_vectors.specs.Words.{bit_row}
use Rattle.cheri_vectors.proofs.printing.push_bit_rows.Given as goal

abbrev pub invariant-loop-n : goal.invariant-loop-n
invariant-loop-n l = string_bytes l.out ≡ string_bytes l.initial.out ++ rows_below bit_row l.n
