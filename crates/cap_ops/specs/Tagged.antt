-- Values of a tag and a word from outside: a tag counts on the word of a lawful capability alone.
use Rattle.std.specs.Prelude.{ℕ, ◌+◌, ◌-◌, ◌*◌, ◌%◌, ◌^◌, ◌==◌, nat_le, nat_lt, not, Bool, ◌&&◌}
use Rattle.std.specs.Prelude.{if◌then◌else◌}
use Rattle.cap_model.specs.bounds.Window.{is_in_window}
use Rattle.cap_model.specs.words.Fields.{word_ie, stored_t, stored_b, word_b, word_t}
use Rattle.cap_model.specs.values.Capability.{last_sealable_type, word_of, capability_at}
use Rattle.cap_model.specs.values.CapValue.{CapValue, value_at}
use Rattle.cap_model.specs.results.Rebuilt.{are_aligned}

-- whether a capability can have an object type: it has 18 bits, and is none of the two reserved
-- ones
abbrev pub is_lawful_type : ℕ → Bool
is_lawful_type otype =
    nat_lt otype (2 ^ 18) && not (otype == last_sealable_type + 1)
    && not (otype == last_sealable_type + 2)

-- Whether a word of 128 bits is that of a lawful capability, as a test. Permissions, flag, base and
-- address of any word are in their ranges.
unfoldable pub is_encoding : ℕ → Bool
is_encoding word =
    let c = capability_at word in
    is_lawful_type c.otype && nat_le c.base c.top && nat_le c.top (2 ^ 64)
    && are_aligned c.base c.top
    && is_in_window c.base (c.top - c.base) c.addr && (word_of c == word)

-- the exponent as the fields have it, which may be above the greatest
unfoldable pub stored_exponent : ℕ → ℕ
stored_exponent upper =
    if word_ie upper == 0 then 0 else 8 * (stored_t upper % 8) + stored_b upper % 8

-- how many steps of 2^E the top lies above the base, with IE 1 from 2^12 on
unfoldable pub length_steps : ℕ → ℕ
length_steps upper =
    word_ie upper * 2 ^ 12 + (word_t upper + 2 ^ 12 - word_b upper % 2 ^ 12) % 2 ^ 12

-- the value of a tag and a word: valid where the tag is set on the word of a lawful capability,
-- else the raw word
unfoldable pub value_from : Bool → ℕ → CapValue
value_from tag word = value_at (tag && is_encoding word) word
