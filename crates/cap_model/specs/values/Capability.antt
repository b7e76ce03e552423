-- A capability as whole numbers, when it is lawful, and its word (CHERI ISA v9, "capability
-- encoding").
use Rattle.std.specs.Prelude.{◌≡◌, ◌≢◌, ℕ, ◌+◌, ◌-◌, ◌*◌, ◌/◌, ◌%◌, ◌^◌, ◌<◌, ◌≤◌}
use Rattle.cap_model.specs.declared.otype.TheConstants.{UNSEALED_TYPE, SENTRY_TYPE}
use Rattle.cap_model.specs.declared.otype.TheConstants.{LAST_SEALABLE_TYPE}
use Rattle.cap_model.specs.bounds.Lengths.{exponent, internal_exponent, alignment}
use Rattle.cap_model.specs.bounds.Window.{IsInWindow}
use Rattle.cap_model.specs.words.Fields.{with_null_fields, field_of_perms, word_perms, word_flag}
use Rattle.cap_model.specs.words.Fields.{word_otype}
use Rattle.cap_model.specs.words.RawBounds.{raw_base, raw_top}

-- Bounds from base up to, not including, top; permissions in CGetPerm's form; flag 0 or 1; an
-- object type.
pub record Capability : Type 0 where
  pub base : ℕ
  pub top : ℕ
  pub addr : ℕ
  pub perms : ℕ
  pub flag : ℕ
  pub otype : ℕ

-- the object types of what is unsealed and of a sealed entry (sentry)
abbrev pub unsealed_type : ℕ
unsealed_type = UNSEALED_TYPE

abbrev pub sentry_type : ℕ
sentry_type = SENTRY_TYPE

-- the greatest object type that CSeal can give; the two types above it and below sentry are
-- reserved
abbrev pub last_sealable_type : ℕ
last_sealable_type = LAST_SEALABLE_TYPE

-- an object type that a tagged capability may have: none of the two reserved ones
pub record IsLawfulType (otype : ℕ) : Type 0 where
  pub below : otype < 2 ^ 18
  pub not_reserved : otype ≢ last_sealable_type + 1
  pub not_reserved_either : otype ≢ last_sealable_type + 2

-- only permission numbers 0 to 11 and 15 to 18
pub record IsPermissionSet (perms : ℕ) : Type 0 where
  pub below : perms < 2 ^ 19
  pub known : perms / 2 ^ 12 % 8 ≡ 0

-- What every tagged capability is. The bounds are multiples of their length's alignment, and the
-- address lies in the window, so that the word has room for them.
pub record IsLawful (c : Capability) : Type 0 where
  pub perms : IsPermissionSet c.perms
  pub flag : c.flag < 2
  pub otype : IsLawfulType c.otype
  pub base_below : c.base < 2 ^ 64
  pub ordered : c.base ≤ c.top
  pub top_at_most : c.top ≤ 2 ^ 64
  pub base_fits : c.base % alignment (c.top - c.base) ≡ 0
  pub top_fits : c.top % alignment (c.top - c.base) ≡ 0
  pub addr_below : c.addr < 2 ^ 64
  pub in_window : IsInWindow c.base (c.top - c.base) c.addr

-- the field B of bounds with these IE and E: the base's digits from E on, and with IE 1 the low
-- half of E
unfoldable pub b_field : ℕ → ℕ → ℕ → ℕ
b_field ie e base = base / 2 ^ e % 2 ^ 14 + ie * (e % 8)

-- the field T: the top's digits from E on, of which the upper two are left out, and with IE 1 the
-- high half of E
unfoldable pub t_field : ℕ → ℕ → ℕ → ℕ
t_field ie e top = top / 2 ^ e % 2 ^ 12 + ie * (e / 8)

-- the upper half with these fields, whose reserved bits are 0
unfoldable pub upper_of_fields : ℕ → ℕ → ℕ → ℕ → ℕ → ℕ → ℕ
upper_of_fields perms flag otype ie t b =
    with_null_fields
    (field_of_perms perms * 2 ^ 48 + flag * 2 ^ 45 + otype * 2 ^ 27 + ie * 2 ^ 26 + t * 2 ^ 14 + b)

-- the upper half of a capability's word; the lower half is its address
unfoldable pub upper_of : Capability → ℕ
upper_of c =
    let len = c.top - c.base in
    let ie = internal_exponent len in
    let e = exponent len in
    upper_of_fields c.perms c.flag c.otype ie (t_field ie e c.top) (b_field ie e c.base)

-- the word of a lawful capability
unfoldable pub word_of : Capability → ℕ
word_of c = upper_of c * 2 ^ 64 + c.addr

-- what a word of 128 bits says, as a capability, whether or not a capability has this word
unfoldable pub capability_at : ℕ → Capability
capability_at word =
    let upper = word / 2 ^ 64 in
    let addr = word % 2 ^ 64 in
    record {
      base = raw_base upper addr;
      top = raw_top upper addr;
      addr = addr;
      perms = word_perms upper;
      flag = word_flag upper;
      otype = word_otype upper;
    }
