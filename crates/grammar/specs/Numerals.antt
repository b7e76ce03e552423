-- Numbers of listings, decimal or hexadecimal after `0x` (this project's own format).
use Rattle.std.specs.Prelude.{ℕ, nat_le, if◌then◌else◌, List, Option, Some, None, Result, Ok, Err}
use Rattle.std.specs.Prelude.{ok_or, option_map}
use Rattle.text_numbers.specs.Numerals.{number_in, number_of as written_number, within_128_bits}
use Rattle.grammar.specs.declared.fault.ListingFaultKind.{ListingFaultKind}
use Rattle.grammar.specs.declared.fault.ListingFaultKind.TheVariants.{Operand, Range}

-- the number that digits of a base write: none where it is 2^128 or more, beyond every range
abbrev pub number_of_digits : ℕ → List ℕ → Result (Option ℕ) ListingFaultKind
number_of_digits base token = ok_or (option_map within_128_bits (number_in base token)) Operand

-- the same of the number that a token writes
unfoldable pub number_of : List ℕ → Result (Option ℕ) ListingFaultKind
number_of token = ok_or (option_map within_128_bits (written_number token)) Operand

-- a number in its range
abbrev pub at_most : ℕ → Option ℕ → Result ℕ ListingFaultKind
at_most limit (Some n) = if nat_le n limit then Ok n else Err Range
at_most limit None = Err Range
