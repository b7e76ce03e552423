-- The fields of the upper half of a 128-bit word in memory. The places of the fields and null's
-- fields are this project's own profile; the fields are those of CHERI ISA v9, "capability
-- encoding".
use Rattle.std.specs.Prelude.{ℕ, ◌+◌, ◌*◌, ◌/◌, ◌%◌, ◌^◌, ◌==◌, nat_lt, min, bit_xor, if◌then◌else◌}
use Rattle.cap_model.specs.declared.encoding.TheConstants.{NULL_FIELDS, MAX_EXPONENT}
use Rattle.cap_model.specs.bounds.Numbers.{round_down}

-- the upper half of the null capability's fields: unsealed, IE 1, T 0x006, B 0x0004, all others 0
abbrev pub null_fields : ℕ
null_fields = NULL_FIELDS

-- a word in memory is its fields exclusive-or null's, so that null is the word 0; this leads either
-- way
unfoldable pub with_null_fields : ℕ → ℕ
with_null_fields upper = bit_xor upper null_fields

-- Permissions as CGetPerm shows them have bits 0 to 11 and software bits 15 to 18; the field of a
-- word has the software bits right above the others.
abbrev pub perms_of_field : ℕ → ℕ
perms_of_field field = field / 2 ^ 12 * 2 ^ 15 + field % 2 ^ 12

abbrev pub field_of_perms : ℕ → ℕ
field_of_perms perms = perms / 2 ^ 15 * 2 ^ 12 + perms % 2 ^ 12

unfoldable pub word_perms : ℕ → ℕ
word_perms upper = perms_of_field (with_null_fields upper / 2 ^ 48)

unfoldable pub word_reserved : ℕ → ℕ
word_reserved upper = with_null_fields upper / 2 ^ 46 % 2 ^ 2

unfoldable pub word_flag : ℕ → ℕ
word_flag upper = with_null_fields upper / 2 ^ 45 % 2

unfoldable pub word_otype : ℕ → ℕ
word_otype upper = with_null_fields upper / 2 ^ 27 % 2 ^ 18

unfoldable pub word_ie : ℕ → ℕ
word_ie upper = with_null_fields upper / 2 ^ 26 % 2

-- T and B as stored: with IE 1 their low three bits are the two halves of the exponent
unfoldable pub stored_t : ℕ → ℕ
stored_t upper = with_null_fields upper / 2 ^ 14 % 2 ^ 12

unfoldable pub stored_b : ℕ → ℕ
stored_b upper = with_null_fields upper % 2 ^ 14

-- the exponent E: 0 with IE 0, else the six bits, of which more than 52 counts as 52
unfoldable pub word_exponent : ℕ → ℕ
word_exponent upper =
    if word_ie upper == 0 then 0
    else min MAX_EXPONENT (8 * (stored_t upper % 8) + stored_b upper % 8)

-- B, of 14 bits, in which the bits of the exponent count as 0
unfoldable pub word_b : ℕ → ℕ
word_b upper = if word_ie upper == 0 then stored_b upper else round_down 8 (stored_b upper)

-- the twelve bits of T that are stored, in which the bits of the exponent count as 0
unfoldable pub word_t : ℕ → ℕ
word_t upper = if word_ie upper == 0 then stored_t upper else round_down 8 (stored_t upper)

-- T of 14 bits: its top two bits are B's, one more where T would be below B, and one more with IE
-- 1, since the length then has its leading bit there
unfoldable pub word_t14 : ℕ → ℕ
word_t14 upper =
    let carry = if nat_lt (word_t upper) (word_b upper % 2 ^ 12) then 1 else 0
    in (word_b upper / 2 ^ 12 + carry + word_ie upper) % 4 * 2 ^ 12 + word_t upper
