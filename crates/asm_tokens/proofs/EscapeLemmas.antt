-- A byte that was read with a limit of 128 bits.
use Rattle.std.proofs.Common.{◌≡◌, ℕ, arith}
use Rattle.std.proofs.lemmas.Bool.Decides.{nat_tests}
use Rattle.text_numbers.specs.Numerals.{within_128_bits}
use Rattle.asm_tokens.specs.Escapes.{escaped, escaped_if_read}

pub escaped_read : (n length : ℕ) → escaped_if_read (within_128_bits n) length ≡ escaped n length
escaped_read n length = grind (arith, nat_tests)
