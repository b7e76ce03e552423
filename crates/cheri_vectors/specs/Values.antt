-- The rows of values: each operation on each of some values and each of some second ones.
use Rattle.std.specs.Prelude.{ℕ, ◌/◌, ◌%◌, ◌^◌, false, List, codes, get_or}
use Rattle.cap_model.specs.values.CapValue.{CapValue, raw, bits_of, tag_of}
use Rattle.cap_model.specs.results.EditedWords.{word_of_halves}
use Rattle.cap_model.specs.results.Fields.{and_perm, set_flags, set_high}
use Rattle.cap_model.specs.results.Readings.{is_subset, is_equal_exact}
use Rattle.cap_model.specs.results.Rebuilt.{build}
use Rattle.cap_model.specs.results.Addresses.{address_of, clear_tag, set_address, inc_offset}
use Rattle.cap_model.specs.results.Addresses.{set_bounds, set_bounds_exact}
use Rattle.cap_model.specs.results.Seals.{seal, unseal, seal_entry}
use Rattle.cap_ops.specs.Tagged.{value_from}
use Rattle.cheri_vectors.specs.declared.values.Given.{Given}
use Rattle.cheri_vectors.specs.declared.values.Operation.{Operation}
use Rattle.cheri_vectors.specs.declared.values.Operation.TheVariants.{ClearTag, SetAddress}
use Rattle.cheri_vectors.specs.declared.values.Operation.TheVariants.{IncOffset, SetBounds}
use Rattle.cheri_vectors.specs.declared.values.Operation.TheVariants.{SetBoundsExact, AndPerms}
use Rattle.cheri_vectors.specs.declared.values.Operation.TheVariants.{SetFlags, SetHigh, Seal}
use Rattle.cheri_vectors.specs.declared.values.Operation.TheVariants.{Unseal, SealEntry, Build}
use Rattle.cheri_vectors.specs.declared.values.Operation.TheVariants.{TestSubset, EqualExact}
use Rattle.cheri_vectors.specs.declared.values.TheConstants.{OPERATIONS, FIRST, SECOND}
use Rattle.cheri_vectors.specs.Texts.{hex, bit_of, ◌+++◌}

-- the value that a tag and a word mean
abbrev pub value_of : Given → CapValue
value_of given = value_from given.tag (word_of_halves given.upper given.addr)

abbrev pub name_of : Operation → List ℕ
name_of ClearTag = codes "clear_tag"
name_of SetAddress = codes "set_address"
name_of IncOffset = codes "inc_offset"
name_of SetBounds = codes "set_bounds"
name_of SetBoundsExact = codes "set_bounds_exact"
name_of AndPerms = codes "and_perms"
name_of SetFlags = codes "set_flags"
name_of SetHigh = codes "set_high"
name_of Seal = codes "seal"
name_of Unseal = codes "unseal"
name_of SealEntry = codes "seal_entry"
name_of Build = codes "build"
name_of TestSubset = codes "test_subset"
name_of EqualExact = codes "equal_exact"

-- What an operation gives. One of an integer reads the second value as one, as instructions do; a
-- comparison gives an integer.
abbrev pub result_of : Operation → CapValue → CapValue → CapValue
result_of ClearTag v w = clear_tag v
result_of SetAddress v w = set_address v (address_of w)
result_of IncOffset v w = inc_offset v (address_of w)
result_of SetBounds v w = set_bounds v (address_of w)
result_of SetBoundsExact v w = set_bounds_exact v (address_of w)
result_of AndPerms v w = and_perm v (address_of w)
result_of SetFlags v w = set_flags v (address_of w)
result_of SetHigh v w = set_high v (address_of w)
result_of Seal v w = seal v w
result_of Unseal v w = unseal v w
result_of SealEntry v w = seal_entry v
result_of Build v w = build v w
result_of TestSubset v w = raw (bit_of (is_subset v w))
result_of EqualExact v w = raw (bit_of (is_equal_exact v w))

-- a tag and a word
abbrev pub given_text : Given → List ℕ
given_text given =
    codes " " +++ hex (bit_of given.tag) +++ codes " " +++ hex given.upper
    +++ codes " " +++ hex given.addr

abbrev pub result_text : CapValue → List ℕ
result_text v =
    codes " " +++ hex (bit_of (tag_of v)) +++ codes " " +++ hex (bits_of v / 2 ^ 64) +++ codes " "
    +++ hex (bits_of v % 2 ^ 64) +++ codes "\n"

abbrev pub operation_row : Operation → Given → Given → List ℕ
operation_row operation first second =
    codes "value " +++ name_of operation +++ given_text first +++ given_text second
    +++ result_text (result_of operation (value_of first) (value_of second))

abbrev pub nothing_given : Given
nothing_given = record { tag = false; upper = 0; addr = 0 }

abbrev pub value_row : ℕ → List ℕ
value_row n =
    operation_row (get_or OPERATIONS (n / 144) ClearTag) (get_or FIRST (n / 12 % 12) nothing_given)
    (get_or SECOND (n % 12) nothing_given)
