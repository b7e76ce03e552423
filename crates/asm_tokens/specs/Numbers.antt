-- Numbers, and the numbers of local labels.
use Rattle.std.specs.Prelude.{ℕ, ◌-◌, ◌^◌, ◌==◌, nat_le, nat_lt, Bool, ◌&&◌, ◌||◌}
use Rattle.std.specs.Prelude.{if◌then◌else◌, List, length, take, drop, slice_index, take_while}
use Rattle.std.specs.Prelude.{Option, Some, None}
use Rattle.text_numbers.specs.Numerals.{number_in, is_numeral}
use Rattle.asm_tokens.specs.declared.token.TokenKind.{TokenKind}
use Rattle.asm_tokens.specs.declared.token.TokenKind.TheVariants.{Number, Local}

-- a text that begins with `0` and this letter, small or capital
abbrev pub has_prefix : ℕ → List ℕ → Bool
has_prefix letter word =
    nat_le 2 (length word) && (slice_index word 0 == 0x30)
    && ((slice_index word 1 == letter) || (slice_index word 1 == letter - 0x20))

abbrev pub begins_zero : List ℕ → Bool
begins_zero word = nat_le 1 (length word) && (slice_index word 0 == 0x30)

-- the number that a word writes: hexadecimal, binary, octal or decimal, by how it begins
unfoldable pub written_number : List ℕ → Option ℕ
written_number word =
    if has_prefix 0x78 word then number_in 16 (drop 2 word)
    else if has_prefix 0x62 word then number_in 2 (drop 2 word)
    else if begins_zero word then number_in 8 word
    else number_in 10 word

-- a number, where it has 64 bits
abbrev pub within_64_bits : ℕ → Option ℕ
within_64_bits n = if nat_lt n (2 ^ 64) then Some n else None

abbrev pub narrowed : Option ℕ → Option ℕ
narrowed (Some n) = within_64_bits n
narrowed None = None

-- what is before the last byte, and that byte
abbrev pub before_last : List ℕ → List ℕ
before_last word = take (length word - 1) word

abbrev pub last_byte : List ℕ → ℕ
last_byte word = slice_index word (length word - 1)

-- decimal digits and `b` or `f`
unfoldable pub is_local : List ℕ → Bool
is_local word =
    nat_le 1 (length word) && ((last_byte word == 0x62) || (last_byte word == 0x66))
    && is_numeral 10 (before_last word)

-- what a word that begins with a digit is: a number, else a local label's
abbrev pub kind_by : Option ℕ → Bool → Option TokenKind
kind_by (Some n) local = Some (Number (within_64_bits n))
kind_by None local = if local then Some Local else None

unfoldable pub number_kind : List ℕ → Option TokenKind
number_kind word = kind_by (written_number word) (is_local word)

-- Decimal digits without the zeros before them. Two local labels are the same where these are.
abbrev pub without_zeros : List ℕ → List ℕ
without_zeros digits = drop (length (take_while (λ b. b == 0x30) digits)) digits
