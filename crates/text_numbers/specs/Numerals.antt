-- The numbers that texts write: decimal digits, or `0x` and hexadecimal digits of either case (this
-- project's own format).
use Rattle.std.specs.Prelude.{ℕ, ◌+◌, ◌*◌, ◌^◌, ◌==◌, nat_lt, nat_le, Bool, true, not, ◌&&◌}
use Rattle.std.specs.Prelude.{if◌then◌else◌, List, [], ◌∷◌, length, drop, slice_index, Option, Some}
use Rattle.std.specs.Prelude.{None}
use Rattle.std.specs.Char.{digit_value, is_digit}
use Rattle.std.specs.List.{list_all}
use Rattle.std.specs.Str.Parse.{digits_value}

-- whether a table has the values as digits of the bytes from this one on
unfoldable pub values_from : ℕ → List ℕ → Bool
values_from byte [] = true
values_from byte (value ∷ values) = (value == digit_value byte) && values_from (byte + 1) values

-- one digit of the base or more, and nothing else
abbrev pub is_numeral : ℕ → List ℕ → Bool
is_numeral base text = not (length text == 0) && list_all (λ b. is_digit b base) text

-- the number that a text of such digits writes
unfoldable pub number_in : ℕ → List ℕ → Option ℕ
number_in base text = if is_numeral base text then Some (digits_value base text) else None

abbrev pub begins_hexadecimal : List ℕ → Bool
begins_hexadecimal text =
    nat_le 2 (length text) && (slice_index text 0 == 0x30) && (slice_index text 1 == 0x78)

-- the number that a text writes
unfoldable pub number_of : List ℕ → Option ℕ
number_of text = if begins_hexadecimal text then number_in 16 (drop 2 text) else number_in 10 text

-- A number as it is read. A text may write any number, and no range goes beyond 128 bits: there is
-- none where it has more.
abbrev pub within_128_bits : ℕ → Option ℕ
within_128_bits n = if nat_lt n (2 ^ 128) then Some n else None

-- a number that was read with one more digit after it
abbrev pub with_digit : ℕ → Option ℕ → ℕ → Option ℕ
with_digit base (Some n) b = within_128_bits (n * base + digit_value b)
with_digit base None b = None
