-- Edited words: a 128-bit word with one of its fields replaced. A capability instruction whose tag
-- condition fails gives such a word without a tag (CHERI ISA v9, "capability instructions").
use Rattle.std.specs.Prelude.{ℕ, ◌+◌, ◌*◌, ◌/◌, ◌%◌, ◌^◌}
use Rattle.cap_model.specs.bounds.Lengths.{internal_exponent}
use Rattle.cap_model.specs.bounds.Rounding.{rounding_exponent, rounded_base, rounded_top}
use Rattle.cap_model.specs.words.Fields.{with_null_fields, field_of_perms}
use Rattle.cap_model.specs.values.Capability.{b_field, t_field}

-- a word of these two halves
abbrev pub word_of_halves : ℕ → ℕ → ℕ
word_of_halves upper addr = upper * 2 ^ 64 + addr

-- an upper half with other permissions, which are its high 16 bits
unfoldable pub with_perms : ℕ → ℕ → ℕ
with_perms upper perms =
    with_null_fields (field_of_perms perms * 2 ^ 48 + with_null_fields upper % 2 ^ 48)

-- an upper half with another flag, which is its bit 45
unfoldable pub with_flag : ℕ → ℕ → ℕ
with_flag upper flag =
    with_null_fields
    (with_null_fields upper / 2 ^ 46 * 2 ^ 46 + flag * 2 ^ 45 + with_null_fields upper % 2 ^ 45)

-- an upper half with another object type, which is its 18 bits from bit 27 on
unfoldable pub with_otype : ℕ → ℕ → ℕ
with_otype upper otype =
    with_null_fields
    (with_null_fields upper / 2 ^ 45 * 2 ^ 45 + otype * 2 ^ 27 + with_null_fields upper % 2 ^ 27)

-- an upper half with other fields IE, T and B, which are its low 27 bits
unfoldable pub with_bounds_fields : ℕ → ℕ → ℕ → ℕ → ℕ
with_bounds_fields upper ie t b =
    with_null_fields (with_null_fields upper / 2 ^ 27 * 2 ^ 27 + ie * 2 ^ 26 + t * 2 ^ 14 + b)

-- an upper half whose bounds fields are those of the rounding of base and length
unfoldable pub with_rounded_fields : ℕ → ℕ → ℕ → ℕ
with_rounded_fields upper base len =
    let ie = internal_exponent len in
    let e = rounding_exponent base len in
    with_bounds_fields upper ie
    (t_field ie e (rounded_top base len)) (b_field ie e (rounded_base base len))

-- a word with another address, which is its lower half
unfoldable pub word_with_address : ℕ → ℕ → ℕ
word_with_address word addr = word_of_halves (word / 2 ^ 64) addr

-- a word with another upper half
unfoldable pub word_with_upper : ℕ → ℕ → ℕ
word_with_upper word upper = word_of_halves upper (word % 2 ^ 64)

-- a word whose bounds fields are those of the rounding of base and length
unfoldable pub with_rounded_bounds : ℕ → ℕ → ℕ → ℕ
with_rounded_bounds word base len =
    word_with_upper word (with_rounded_fields (word / 2 ^ 64) base len)
