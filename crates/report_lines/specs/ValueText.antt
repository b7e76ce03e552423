-- How numbers, object types, words and values are written.
use Rattle.std.specs.Prelude.{ℕ, ◌/◌, ◌%◌, ◌^◌, ◌==◌, if◌then◌else◌, List, codes, decimal}
use Rattle.cap_model.specs.values.Capability.{Capability, unsealed_type, sentry_type}
use Rattle.cap_model.specs.values.CapValue.{CapValue, bits_of, tag_of, parts_of}
use Rattle.report_lines.specs.Texts.{◌+++◌}
unfoldable pub use Rattle.text_numbers.specs.Hexadecimal.{hex_text}

-- an object type: by its name where it has one, else in decimal
abbrev pub type_text : ℕ → List ℕ
type_text otype =
    if otype == unsealed_type then codes "unsealed"
    else if otype == sentry_type then codes "sentry"
    else decimal otype

-- the two halves of a word of 128 bits
abbrev pub word_text : ℕ → List ℕ
word_text bits = hex_text 16 (bits / 2 ^ 64) +++ codes "_" +++ hex_text 16 (bits % 2 ^ 64)

-- the bounds, and the permissions in CGetPerm's form
abbrev pub bounds_text : Capability → List ℕ
bounds_text parts =
    hex_text 16 parts.base +++ codes " " +++ hex_text 17 parts.top +++ codes " "
    +++ hex_text 5 parts.perms

-- the same and the object type
abbrev pub parts_text : Capability → List ℕ
parts_text parts =
    hex_text 16 parts.base +++ codes " " +++ hex_text 17 parts.top +++ codes " "
    +++ hex_text 5 parts.perms +++ codes " " +++ type_text parts.otype

-- the tag and the word of a value
abbrev pub tagged_word_text : CapValue → List ℕ
tagged_word_text v =
    if tag_of v then codes "1 " +++ word_text (bits_of v) else codes "0 " +++ word_text (bits_of v)

-- a value: its tag and word, and where it is tagged what the capability is
abbrev pub value_text : CapValue → List ℕ
value_text v =
    if tag_of v then codes "1 " +++ word_text (bits_of v) +++ codes " " +++ parts_text (parts_of v)
    else codes "0 " +++ word_text (bits_of v)
