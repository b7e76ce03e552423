-- The rows of ranges: lengths at each power of 2, and ranges that round up twice or end past the
-- address space.
use Rattle.std.specs.Prelude.{ℕ, ◌+◌, ◌-◌, ◌*◌, ◌/◌, ◌%◌, ◌^◌, ◌==◌, if◌then◌else◌, List, codes}
use Rattle.cap_model.specs.bounds.Lengths.{internal_exponent}
use Rattle.cap_model.specs.bounds.Rounding.{rounding_exponent, rounded_base, rounded_top}
use Rattle.cap_model.specs.values.Capability.{b_field, t_field}
use Rattle.cap_model.specs.results.Addresses.{is_exact}
use Rattle.cap_model.specs.bounds.Alignment.{representable_length, alignment_mask}
use Rattle.cheri_vectors.specs.Texts.{hex, bit_of, ◌+++◌}

-- a range and the bounds of its rounding
unfoldable pub rounded_text : ℕ → ℕ → List ℕ
rounded_text base len =
    codes "range " +++ hex base +++ codes " " +++ hex len +++ codes " "
    +++ hex (rounded_base base len) +++ codes " " +++ hex (rounded_top base len)

-- the rounding's fields, and the length and the alignment for exact bounds
abbrev pub encoding_text : ℕ → ℕ → List ℕ
encoding_text base len =
    let ie = internal_exponent len in
    let e = rounding_exponent base len in
    codes " " +++ hex (b_field ie e (rounded_base base len))
    +++ codes " " +++ hex (t_field ie e (rounded_top base len))
    +++ codes " " +++ hex ie +++ codes " " +++ hex e +++ codes " "
    +++ hex (bit_of (is_exact base len)) +++ codes " "
    +++ hex (representable_length len) +++ codes " " +++ hex (alignment_mask len) +++ codes "\n"

abbrev pub range_row : ℕ → ℕ → List ℕ
range_row base len = rounded_text base len +++ encoding_text base len

-- at base 0 the lengths from nine below each power of 2 to eight above it
abbrev pub power_len : ℕ → ℕ
power_len n = (2 ^ (n / 18) + 2 ^ 64 + n % 18 - 9) % 2 ^ 64

abbrev pub power_row : ℕ → List ℕ
power_row n = range_row 0 (power_len n)

-- at each power of 2 four bases, and three lengths at and above the greatest one of an exponent
abbrev pub corner_base : ℕ → ℕ
corner_base n =
    if n / 3 % 4 == 0 then 0 else if n / 3 % 4 == 1 then 1 else if n / 3 % 4 == 2 then 2 ^ (n / 12)
    else 2 ^ 64 - 2 ^ (n / 12)

abbrev pub corner_len : ℕ → ℕ
corner_len n =
    if n % 3 == 0 then 8191 * 2 ^ (n / 12) % 2 ^ 64
    else if n % 3 == 1 then (8191 * 2 ^ (n / 12) + 1) % 2 ^ 64
    else 4097 * 2 ^ (n / 12) % 2 ^ 64

abbrev pub corner_range_row : ℕ → List ℕ
corner_range_row n = range_row (corner_base n) (corner_len n)
