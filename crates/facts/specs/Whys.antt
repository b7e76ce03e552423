-- Parts that several tables of reasons share, each with the numbers that its lines speak of.
use Rattle.std.specs.Prelude.{ℕ, ◌+◌, ◌/◌, ◌^◌, ◌==◌, nat_lt, not, if◌then◌else◌, bit_and, Option}
use Rattle.std.specs.Prelude.{Some}
use Rattle.std.specs.Prelude.{None}
use Rattle.cap_model.specs.values.Capability.{sentry_type}
use Rattle.cap_model.specs.values.CapValue.{bits_of, tag_of}
use Rattle.cap_model.specs.words.Fields.{word_reserved}
use Rattle.cap_model.specs.results.Addresses.{address_of, has_permission, in_bounds}
use Rattle.cap_model.specs.results.Readings.{base_of, top_of, object_type_of, permissions_of}
use Rattle.cap_model.specs.results.Readings.{is_sealed}
use Rattle.facts.specs.declared.operands.Operands.{Operands}
use Rattle.facts.specs.declared.why.Why.{Why}
use Rattle.facts.specs.declared.why.Why.TheVariants as why
use Rattle.facts.specs.Losses.{lacking}

-- the source is not open
abbrev pub not_open : Operands → Option Why
not_open o =
    if not (tag_of o.v) then Some (why.Untagged o.source)
    else if is_sealed o.v then Some (why.Sealed o.source (object_type_of o.v))
    else None

-- the range of an address and a length is not in the source's bounds
abbrev pub range_outside : Operands → Option Why
range_outside o =
    if nat_lt (address_of o.v) (base_of o.v)
    then Some (why.BaseBelow (address_of o.v) (base_of o.v))
    else if nat_lt (top_of o.v) (address_of o.v + address_of o.w)
    then Some (why.EndAbove (address_of o.v + address_of o.w) (top_of o.v))
    else None

-- the authority has none over the object type that is its address, by the permission with this
-- number
abbrev pub no_authority : Operands → ℕ → Option Why
no_authority o permission =
    if not (tag_of o.w) then Some (why.Untagged o.authority)
    else if is_sealed o.w then Some (why.Sealed o.authority (object_type_of o.w))
    else if not (has_permission o.w permission) then Some (why.Lacks o.authority permission)
    else if not (in_bounds o.w (address_of o.w) 1)
    then Some (why.TypeOutside (address_of o.w) (base_of o.w) (top_of o.w) o.authority)
    else None

-- the source is not sealed by an object type
abbrev pub not_sealed : Operands → Option Why
not_sealed o =
    if not (tag_of o.v) then Some (why.Untagged o.source)
    else if not (is_sealed o.v) then Some (why.NotSealed o.source)
    else if object_type_of o.v == sentry_type then Some (why.Sentry o.source)
    else None

-- the bounds of the word that is rebuilt are not in order and in the source's
abbrev pub rebuilt_outside : Operands → Option Why
rebuilt_outside o =
    if nat_lt (base_of o.w) (base_of o.v) then Some (why.BaseBelow (base_of o.w) (base_of o.v))
    else if nat_lt (top_of o.v) (top_of o.w) then Some (why.TopAbove (top_of o.w) (top_of o.v))
    else if nat_lt (top_of o.w) (base_of o.w)
    then Some (why.BaseAboveTop (base_of o.w) (top_of o.w))
    else None

-- it has permissions that the source lacks
abbrev pub more_permissions : Operands → Option Why
more_permissions o =
    if not (bit_and (permissions_of o.w) (permissions_of o.v) == permissions_of o.w)
    then Some (why.MorePermissions o.authority (lacking o.w o.v) o.source)
    else None

-- the first of two reasons that there is
abbrev pub first_of : Option Why → Option Why → Option Why
first_of None later = later
first_of (Some reason) later = Some reason

-- the lines of CBuildCap's table but for what a capability can't encode
abbrev pub not_buildable : Operands → Option Why
not_buildable o =
    first_of (not_open o)
    (if not (word_reserved (bits_of o.w / 2 ^ 64) == 0) then Some (why.ReservedBits o.authority)
    else first_of (rebuilt_outside o) (more_permissions o))
