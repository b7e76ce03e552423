-- Monotonicity of one instruction: what a tagged result is to its sources (CHERI ISA version 9,
-- "provenance and monotonicity").
use Rattle.std.specs.Prelude.{◌≡◌, ◌≤◌, ◌⊎◌, bit_and, true}
use Rattle.cap_model.specs.values.Capability.{Capability}
use Rattle.cap_model.specs.values.CapValue.{CapValue, tag_of, parts_of}
use Rattle.cap_model.specs.results.Addresses.{address_of}
use Rattle.cap_model.specs.results.Seals.{seal_permission, is_sealable, has_type_authority}

-- one capability lies within another: its bounds do, and its permissions are among the other's
pub record IsWithin (c d : Capability) : Type 0 where
  pub base : d.base ≤ c.base
  pub top : c.top ≤ d.top
  pub perms : bit_and c.perms d.perms ≡ c.perms

-- A result is derived from the first source under the second: the first is tagged, the result lies
-- within it, and a sealable object type is the first's own, or is the address of the second, which
-- has Seal and this address in its bounds.
pub record IsDerived (result v w : CapValue) : Type 0 where
  pub source : tag_of v ≡ true
  pub within : IsWithin (parts_of result) (parts_of v)
  pub sealed : is_sealable (parts_of result).otype ≡ true →
      ((parts_of result).otype ≡ (parts_of v).otype)
      ⊎ ((has_type_authority w seal_permission ≡ true) × ((parts_of result).otype ≡ address_of w))
