-- Numbers that were read with a limit of 128 bits.
use Rattle.std.proofs.Common.{◌≡◌, ℕ, Bool, true, false, List, Some, None, cond, refl, arith}
use Rattle.std.specs.Option.{is_some, option_map}
use Rattle.std.proofs.lemmas.Bool.Decides.{nat_tests}
use Rattle.std.specs.Str.Parse.{digits_value}
use Rattle.text_numbers.specs.Numerals.{within_128_bits, number_in, is_numeral}
use Rattle.asm_tokens.specs.Numbers.{within_64_bits, narrowed}

-- a limit of 64 bits after one of 128
pub narrowed_within : (n : ℕ) → narrowed (within_128_bits n) ≡ within_64_bits n
narrowed_within n = grind (arith, nat_tests)

read_where : (test : Bool) (n : ℕ) → is_some (option_map within_128_bits (cond test (Some n) None)) ≡ test
read_where true n = refl
read_where false n = refl

-- digits are read, whatever their number
pub is_read : (base : ℕ) (text : List ℕ) → is_some (option_map within_128_bits (number_in base text)) ≡ is_numeral base text
unfolding number_in
is_read base text = read_where (is_numeral base text) (digits_value base text)
