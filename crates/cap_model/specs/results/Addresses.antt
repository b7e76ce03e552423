-- The results of capability instructions on addresses and bounds, as functions of values (CHERI ISA
-- v9, "capability instructions"; what is this project's own is said at the definition). Each gives
-- a tagged capability where a condition holds, and else the same edited word without a tag. The
-- other results are in `Fields`, `Seals` and `Readings`.
use Rattle.std.specs.Prelude.{ℕ, ◌+◌, ◌-◌, ◌/◌, ◌%◌, ◌^◌, ◌==◌, nat_le, min, Bool, ◌&&◌}
use Rattle.cap_model.specs.bounds.Window.{is_in_window}
use Rattle.cap_model.specs.bounds.Rounding.{rounded_base, rounded_top}
use Rattle.cap_model.specs.values.Capability.{Capability, unsealed_type}
use Rattle.cap_model.specs.values.CapValue.{CapValue, valid, raw, bits_of, tag_of, parts_of}
use Rattle.cap_model.specs.values.CapValue.{tagged_where}
use Rattle.cap_model.specs.results.EditedWords.{word_with_address, with_rounded_bounds}

-- a register read as an integer gives its address; an integer is written as an untagged word of
-- that address
unfoldable pub address_of : CapValue → ℕ
address_of v = (parts_of v).addr

-- open: tagged and unsealed
abbrev pub is_open : CapValue → Bool
is_open v = tag_of v && ((parts_of v).otype == unsealed_type)

-- whether a value has a permission, by its number
abbrev pub has_permission : CapValue → ℕ → Bool
has_permission v number = (parts_of v).perms / 2 ^ number % 2 == 1

-- whether the n bytes from p on lie in a value's bounds, as whole numbers
abbrev pub in_bounds : CapValue → ℕ → ℕ → Bool
in_bounds v p n = nat_le (parts_of v).base p && nat_le (p + n) (parts_of v).top

-- whether a value's bounds stay as they are with this address
abbrev pub keeps_bounds : CapValue → ℕ → Bool
keeps_bounds v a = is_in_window (parts_of v).base ((parts_of v).top - (parts_of v).base) a

-- the value with another address; for a valid one this is meant where the address is in the window
unfoldable pub with_address : CapValue → ℕ → CapValue
with_address (valid c) a = valid (record c { addr = a })
with_address (raw word) a = raw (word_with_address word a)

-- CMove: the value as it is
abbrev pub moved : CapValue → CapValue
moved v = v

-- CClearTag: the same word without a tag
abbrev pub clear_tag : CapValue → CapValue
clear_tag v = raw (bits_of v)

-- CSetAddr: another address. The tag stays exactly where the bounds do (the exact test is this
-- project's own; the standard lets an implementation keep fewer tags).
unfoldable pub set_address : CapValue → ℕ → CapValue
set_address v a =
    tagged_where (is_open v && keeps_bounds v a)
    (record (parts_of v) { addr = a }) (word_with_address (bits_of v) a)

-- CIncOffset: the address raised by an offset, modulo 2^64; the tag as in CSetAddr
unfoldable pub inc_offset : CapValue → ℕ → CapValue
inc_offset v offset = set_address v ((address_of v + offset) % 2 ^ 64)

-- a value's parts with the bounds of the rounding of its address and a length
abbrev pub with_bounds_of_rounding : CapValue → ℕ → Capability
with_bounds_of_rounding v len =
    record (parts_of v) {
      base = rounded_base (address_of v) len;
      top = rounded_top (address_of v) len;
    }

-- CSetBounds: the bounds become the rounding of the address and the length, where these lie in the
-- old bounds
unfoldable pub set_bounds : CapValue → ℕ → CapValue
set_bounds v len =
    tagged_where (is_open v && in_bounds v (address_of v) len) (with_bounds_of_rounding v len)
    (with_rounded_bounds (bits_of v) (address_of v) len)

-- whether rounding leaves base and length as they are
abbrev pub is_exact : ℕ → ℕ → Bool
is_exact base len = (rounded_base base len == base) && (rounded_top base len == base + len)

-- CSetBoundsExact: as CSetBounds, and the tag only where nothing is rounded
unfoldable pub set_bounds_exact : CapValue → ℕ → CapValue
set_bounds_exact v len =
    tagged_where (is_open v && in_bounds v (address_of v) len && is_exact (address_of v) len)
    (with_bounds_of_rounding v len) (with_rounded_bounds (bits_of v) (address_of v) len)

-- CGetLen: the top less the base modulo 2^65, and at most 2^64 - 1
unfoldable pub length_of : CapValue → ℕ
length_of v = min (2 ^ 64 - 1) (((parts_of v).top + 2 ^ 65 - (parts_of v).base) % 2 ^ 65)
