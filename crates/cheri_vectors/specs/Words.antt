-- The rows of words: null and each single bit, and words of each exponent with bounds at the
-- quarters.
use Rattle.std.specs.Prelude.{ℕ, ◌+◌, ◌-◌, ◌*◌, ◌/◌, ◌%◌, ◌^◌, ◌==◌, nat_lt, if◌then◌else◌, List}
use Rattle.std.specs.Prelude.{codes, slice_index}
use Rattle.cap_model.specs.words.Fields.{with_null_fields, word_perms, word_otype, word_flag}
use Rattle.cap_model.specs.words.Fields.{word_reserved, word_ie, word_exponent}
use Rattle.cap_model.specs.words.RawBounds.{region_floor, raw_base, raw_top}
use Rattle.cap_model.specs.values.Capability.{unsealed_type}
use Rattle.cap_model.specs.results.EditedWords.{word_of_halves}
use Rattle.cap_ops.specs.Tagged.{is_encoding}
use Rattle.cheri_vectors.specs.declared.words.TheConstants.{B_DIGITS, T_DIGITS}
use Rattle.cheri_vectors.specs.Texts.{hex, bit_of, ◌+++◌}

-- what a word is read with
unfoldable pub bounds_text : ℕ → ℕ → List ℕ
bounds_text upper addr =
    codes "word " +++ hex upper +++ codes " " +++ hex addr +++ codes " "
    +++ hex (raw_base upper addr) +++ codes " " +++ hex (raw_top upper addr)

abbrev pub fields_text : ℕ → ℕ → List ℕ
fields_text upper addr =
    codes " " +++ hex (word_perms upper) +++ codes " " +++ hex (word_otype upper)
    +++ codes " " +++ hex (word_flag upper)
    +++ codes " " +++ hex (word_reserved upper) +++ codes " " +++ hex (word_ie upper) +++ codes " "
    +++ hex (word_exponent upper) +++ codes " "
    +++ hex (bit_of (is_encoding (word_of_halves upper addr))) +++ codes "\n"

abbrev pub word_row : ℕ → ℕ → List ℕ
word_row upper addr = bounds_text upper addr +++ fields_text upper addr

-- null, and then the words of one bit from the lowest one on
abbrev pub bit_word : ℕ → ℕ
bit_word n = if n == 0 then 0 else 2 ^ (n - 1)

abbrev pub bit_row : ℕ → List ℕ
bit_row n = word_row (bit_word n / 2 ^ 64) (bit_word n % 2 ^ 64)

-- Words with every exponent, then two without one. Each has all B with all T, and each of these
-- five addresses.
abbrev pub exponent_at : ℕ → ℕ
exponent_at n = n / 225

abbrev pub b_at : ℕ → ℕ
b_at n = slice_index B_DIGITS (n / 25 % 9)

abbrev pub t_at : ℕ → ℕ
t_at n = slice_index T_DIGITS (n / 5 % 5)

-- an unsealed word with no permission
unfoldable pub upper_with : ℕ → ℕ → ℕ → ℕ
upper_with ie t b = with_null_fields (unsealed_type * 2 ^ 27 + ie * 2 ^ 26 + t * 2 ^ 14 + b)

-- with the internal exponent bit the low three bits of T and of B are the exponent's; without it
-- they are all 0 or all 1
abbrev pub corner_upper : ℕ → ℕ
corner_upper n =
    if nat_lt (exponent_at n) 64
    then upper_with 1 (t_at n + exponent_at n / 8) (b_at n + exponent_at n % 8)
    else upper_with 0 (t_at n + (exponent_at n - 64) * 7) (b_at n + (exponent_at n - 64) * 7)

-- the first address and the last one; the base and the address below it; where a region ends
unfoldable pub corner_addr : ℕ → ℕ
corner_addr n =
    let e = exponent_at n % 64 in
    let base = b_at n * 2 ^ e % 2 ^ 64 in
    if n % 5 == 0 then 0 else if n % 5 == 1 then 2 ^ 64 - 1 else if n % 5 == 2 then base
    else if n % 5 == 3 then (base + 2 ^ 64 - 1) % 2 ^ 64 else region_floor (b_at n) * 2 ^ e % 2 ^ 64

abbrev pub corner_row : ℕ → List ℕ
corner_row n = word_row (corner_upper n) (corner_addr n)
