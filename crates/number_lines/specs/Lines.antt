-- The lines that answer what a range is rounded to, and what a word of 128 bits says.
use Rattle.std.specs.Prelude.{ℕ, Bool, if◌then◌else◌, List, ◌++◌, codes, decimal}
use Rattle.cap_model.specs.words.Fields.{word_ie, word_exponent}
use Rattle.cap_model.specs.bounds.Lengths.{internal_exponent}
use Rattle.cap_model.specs.bounds.Rounding.{rounding_exponent, rounded_base, rounded_top}
use Rattle.cap_model.specs.values.Capability.{b_field, t_field}
use Rattle.cap_model.specs.values.CapValue.{CapValue, raw}
use Rattle.cap_model.specs.results.Addresses.{is_exact, address_of, length_of}
use Rattle.cap_model.specs.results.Readings.{permissions_of, flags_of, object_type_of, high_of}
use Rattle.cap_model.specs.results.Readings.{base_of, top_of}
use Rattle.report_lines.specs.Texts.{line, ◌+++◌}
use Rattle.report_lines.specs.ValueText.{hex_text, type_text}

abbrev pub yes_or_no : Bool → List ℕ
yes_or_no holds = if holds then codes "yes" else codes "no"

-- the rounding of an asked range: its fields, its bounds, and whether they are the asked ones
abbrev pub bounds_line : ℕ → ℕ → List ℕ
bounds_line base len =
    let ie = internal_exponent len in
    let e = rounding_exponent base len in
    line (codes "ie=" +++ decimal ie +++ codes " e=" +++ decimal e
    +++ codes " t=" +++ hex_text 3 (t_field ie e (rounded_top base len))
    +++ codes " b=" +++ hex_text 4 (b_field ie e (rounded_base base len))
    +++ codes " base=" +++ hex_text 16 (rounded_base base len)
    +++ codes " top=" +++ hex_text 17 (rounded_top base len)
    +++ codes " exact=" +++ yes_or_no (is_exact base len))

-- the permissions, the flag, the object type and the exponent of a value
abbrev pub fields_part : CapValue → List ℕ
fields_part v =
    codes "perms=" +++ hex_text 5 (permissions_of v) +++ codes " flag=" +++ decimal (flags_of v)
    +++ codes " type=" +++ type_text (object_type_of v)
    +++ codes " ie=" +++ decimal (word_ie (high_of v))
    +++ codes " e=" +++ decimal (word_exponent (high_of v))

-- the bounds, the address and the length of a value, up to the end of the line
abbrev pub bounds_part : CapValue → List ℕ
bounds_part v =
    line (codes " base=" +++ hex_text 16 (base_of v) +++ codes " top=" +++ hex_text 17 (top_of v)
    +++ codes " addr=" +++ hex_text 16 (address_of v)
    +++ codes " len=" +++ hex_text 16 (length_of v))

-- what a word of 128 bits says, without a tag
abbrev pub decode_line : ℕ → List ℕ
decode_line word = fields_part (raw word) ++ bounds_part (raw word)
