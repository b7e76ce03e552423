-- Rebuilding a capability from what its word says, under an authority (CHERI ISA v9, CBuildCap;
-- that the result is always unsealed is this project's own).
use Rattle.std.specs.Prelude.{ℕ, ◌-◌, ◌/◌, ◌%◌, ◌^◌, ◌==◌, nat_le, Bool, ◌&&◌}
use Rattle.cap_model.specs.bounds.Lengths.{alignment}
use Rattle.cap_model.specs.words.Fields.{word_reserved}
use Rattle.cap_model.specs.values.Capability.{Capability, unsealed_type}
use Rattle.cap_model.specs.values.CapValue.{CapValue, bits_of, parts_of, tagged_where}
use Rattle.cap_model.specs.results.Addresses.{address_of, is_open, keeps_bounds}
use Rattle.cap_model.specs.results.Readings.{lies_in}

-- whether bounds are multiples of their length's alignment
abbrev pub are_aligned : ℕ → ℕ → Bool
are_aligned base top = (base % alignment (top - base) == 0) && (top % alignment (top - base) == 0)

-- Whether a capability has what a word says, its type aside: no reserved bit, and bounds and an
-- address that a capability can have.
unfoldable pub is_buildable : CapValue → Bool
is_buildable v =
    (word_reserved (bits_of v / 2 ^ 64) == 0) && nat_le (parts_of v).base (parts_of v).top
    && are_aligned (parts_of v).base (parts_of v).top && keeps_bounds v (address_of v)

-- what a value says, unsealed
abbrev pub unsealed_parts : CapValue → Capability
unsealed_parts v = record (parts_of v) { otype = unsealed_type }

-- CBuildCap: the capability of what v says, unsealed, where the authority is open and v's bounds
-- and permissions lie in its own; else v's word without a tag. Whether v has a tag does not matter.
unfoldable pub build : CapValue → CapValue → CapValue
build authority v =
    tagged_where (is_open authority && lies_in (parts_of authority) (parts_of v) && is_buildable v)
    (unsealed_parts v) (bits_of v)
