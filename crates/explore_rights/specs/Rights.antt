-- Rights, how they lie within others, and in which order they stand.
use Rattle.std.specs.Prelude.{nat_le, nat_lt, ◌==◌, Bool, ◌&&◌, bit_and, if◌then◌else◌}
use Rattle.cap_model.specs.values.CapValue.{CapValue}
use Rattle.cap_model.specs.results.Readings.{base_of, top_of, permissions_of}
use Rattle.explore_rights.specs.declared.rights.Rights.{Rights}

-- the bounds and permissions of a value
unfoldable pub rights_of : CapValue → Rights
rights_of v = record { base = base_of v; top = top_of v; perms = record { 0 = permissions_of v } }

-- whether bounds and permissions lie within others
unfoldable pub is_within : Rights → Rights → Bool
is_within inner outer =
    nat_le outer.base inner.base && nat_le inner.top outer.top
    && (bit_and inner.perms.0 outer.perms.0 == inner.perms.0)

-- whether the first come before the second: ascending by base, then by top descending, then by
-- permissions as a number
unfoldable pub is_before : Rights → Rights → Bool
is_before a b =
    if a.base == b.base
    then (if a.top == b.top then nat_lt a.perms.0 b.perms.0 else nat_lt b.top a.top)
    else nat_lt a.base b.base
