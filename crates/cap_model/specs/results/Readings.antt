-- The integers that instructions read off a value, tagged or not, and its comparisons (CHERI ISA
-- v9, "capability instructions"). CGetAddr is `address_of` and CGetLen is `length_of`, in
-- `Addresses`; CGetTag is `tag_of`.
use Rattle.std.specs.Prelude.{ℕ, ◌+◌, ◌-◌, ◌/◌, ◌%◌, ◌^◌, ◌==◌, nat_le, nat_lt, Bool, true, false}
use Rattle.std.specs.Prelude.{not, ◌&&◌, bit_and, if◌then◌else◌}
use Rattle.cap_model.specs.values.Capability.{Capability, unsealed_type, last_sealable_type}
use Rattle.cap_model.specs.values.CapValue.{CapValue, bits_of, tag_of, parts_of}

-- a truth value as an integer register has it
abbrev pub number_of : Bool → ℕ
number_of true = 1
number_of false = 0

-- CGetPerm: bits 0 to 11, and the software permissions in bits 15 to 18
abbrev pub permissions_of : CapValue → ℕ
permissions_of v = (parts_of v).perms

-- the object type, of 18 bits
abbrev pub object_type_of : CapValue → ℕ
object_type_of v = (parts_of v).otype

-- CGetType: a type above the sealable ones is sign-extended from 18 bits (as in the standard, so
-- that unsealed is -1)
unfoldable pub type_number_of : CapValue → ℕ
type_number_of v =
    if nat_lt last_sealable_type (object_type_of v) then 2 ^ 64 - 2 ^ 18 + object_type_of v
    else object_type_of v

-- CGetBase
abbrev pub base_of : CapValue → ℕ
base_of v = (parts_of v).base

-- the top, which no instruction reads by itself
abbrev pub top_of : CapValue → ℕ
top_of v = (parts_of v).top

-- CGetHigh: the upper half as in memory
abbrev pub high_of : CapValue → ℕ
high_of v = bits_of v / 2 ^ 64

-- CGetFlags: 0 or 1
abbrev pub flags_of : CapValue → ℕ
flags_of v = (parts_of v).flag

-- CGetOffset: the address less the base, modulo 2^64
unfoldable pub offset_of : CapValue → ℕ
offset_of v = ((parts_of v).addr + 2 ^ 64 - (parts_of v).base) % 2 ^ 64

-- CGetSealed: any type but unsealed
abbrev pub is_sealed : CapValue → Bool
is_sealed v = not (object_type_of v == unsealed_type)

-- whether the bounds and the permissions of the second lie in those of the first, as numbers
abbrev pub lies_in : Capability → Capability → Bool
lies_in c d = nat_le c.base d.base && nat_le d.top c.top && (bit_and d.perms c.perms == d.perms)

abbrev pub same_tag : Bool → Bool → Bool
same_tag true second = second
same_tag false second = not second

-- CTestSubset: the tags are equal, and the second's bounds and permissions lie in the first's.
-- Object types are not compared (this project's own).
unfoldable pub is_subset : CapValue → CapValue → Bool
is_subset v w = same_tag (tag_of v) (tag_of w) && lies_in (parts_of v) (parts_of w)

-- CSetEqualExact: the tags and the words are equal
unfoldable pub is_equal_exact : CapValue → CapValue → Bool
is_equal_exact v w = same_tag (tag_of v) (tag_of w) && (bits_of v == bits_of w)
