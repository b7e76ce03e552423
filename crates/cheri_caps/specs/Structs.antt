-- What the structs of C mean, and which struct a result is.
use Rattle.std.specs.Prelude.{ℕ, ◌/◌, ◌%◌, ◌^◌, Result, Ok, Err, if◌then◌else◌}
use Rattle.cap_model.specs.bounds.Lengths.{internal_exponent}
use Rattle.cap_model.specs.bounds.Rounding.{rounding_exponent, rounded_base, rounded_top}
use Rattle.cap_model.specs.words.RawBounds.{raw_base, raw_top}
use Rattle.cap_model.specs.values.Capability.{b_field, t_field}
use Rattle.cap_model.specs.values.CapValue.{CapValue, raw, bits_of, tag_of}
use Rattle.cap_model.specs.results.EditedWords.{word_of_halves}
use Rattle.cap_model.specs.results.Readings.{base_of, top_of, offset_of, type_number_of}
use Rattle.cap_model.specs.results.Readings.{permissions_of, flags_of, is_sealed}
use Rattle.cap_model.specs.results.Addresses.{is_exact, length_of}
use Rattle.cap_ops.specs.Making.{make_fault_number, made}
use Rattle.cap_ops.specs.Tagged.{is_lawful_type, value_from}
use Rattle.cap_ops.specs.declared.making.MakeFault.{MakeFault}
use Rattle.cheri_caps.specs.declared.structs.CheriCap.{CheriCap}
use Rattle.cheri_caps.specs.declared.structs.CheriWord.{CheriWord}
use Rattle.cheri_caps.specs.declared.structs.CheriRange.{CheriRange}
use Rattle.cheri_caps.specs.declared.structs.CheriBounds.{CheriBounds}
use Rattle.cheri_caps.specs.declared.structs.CheriRounded.{CheriRounded}
use Rattle.cheri_caps.specs.declared.structs.CheriParts.{CheriParts}
use Rattle.cheri_caps.specs.declared.structs.CheriMade.{CheriMade}

-- The value that a struct means: the tagged capability where the tag is set and the word is that of
-- a lawful capability, else the untagged word.
abbrev pub value_of : CheriCap → CapValue
value_of c = value_from c.tag (word_of_halves c.upper c.addr)

-- the struct that is a value
abbrev pub struct_of : CapValue → CheriCap
struct_of v = record { addr = bits_of v % 2 ^ 64; upper = bits_of v / 2 ^ 64; tag = tag_of v }

-- bounds, the top in two halves
abbrev pub bounds_with : ℕ → ℕ → CheriBounds
bounds_with base top = record { base = base; top = top % 2 ^ 64; top_high = top / 2 ^ 64 }

-- the bounds that a word is read with, whether or not a capability has it
abbrev pub read_bounds : CheriWord → CheriBounds
read_bounds word = bounds_with (raw_base word.upper word.addr) (raw_top word.upper word.addr)

-- the rounding of a range
abbrev pub rounding : ℕ → ℕ → CheriRounded
rounding base len =
    let ie = internal_exponent len in
    let e = rounding_exponent base len in
    record {
      base = rounded_base base len;
      top = rounded_top base len % 2 ^ 64;
      top_high = rounded_top base len / 2 ^ 64;
      b = b_field ie e (rounded_base base len);
      t = t_field ie e (rounded_top base len);
      ie = ie;
      e = e;
      exact = is_exact base len;
    }

abbrev pub rounded_range : CheriRange → CheriRounded
rounded_range range = rounding range.base range.len

-- what instructions read off a value
abbrev pub parts_with : CapValue → CheriParts
parts_with v =
    record {
      base = base_of v;
      top = top_of v % 2 ^ 64;
      top_high = top_of v / 2 ^ 64;
      len = length_of v;
      offset = offset_of v;
      otype = type_number_of v;
      perms = permissions_of v;
      flags = flags_of v;
      sealed = is_sealed v;
      tag = tag_of v;
    }

-- null, and why no capability was made
abbrev pub refused : ℕ → CheriMade
refused status = record { cap = struct_of (raw 0); status = status }

abbrev pub made_struct : Result CapValue MakeFault → CheriMade
made_struct (Ok v) = record { cap = struct_of v; status = 0 }
made_struct (Err fault) = refused (make_fault_number fault)

-- the answer to the parts of a capability: status 4 for a type that none has, else the first
-- refusal that holds
abbrev pub make_answer : ℕ → ℕ → ℕ → ℕ → ℕ → CheriMade
make_answer base len addr perms otype =
    if is_lawful_type otype then made_struct (made base len addr perms otype) else refused 4
