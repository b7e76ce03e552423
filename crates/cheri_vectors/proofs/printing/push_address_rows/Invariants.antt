use Rattle.std.proofs.Common.{◌≡◌, ◌++◌, string_bytes}
use Rattle.cheri_vectors.specs.Texts.{rows_below}
use Rattle.cheri_vectors.specs.Addresses.{address_row}
use Rattle.cheri_vectors.proofs.printing.push_address_rows.Given as goal

abbrev pub invariant-loop-n : goal.invariant-loop-n
invariant-loop-n l = string_bytes l.out ≡ string_bytes l.initial.out ++ rows_below address_row l.n
