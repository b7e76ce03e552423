-- Laws that join the definitions of bounds, fields and words.
use Rattle.std.specs.Prelude.{◌≡◌, ℕ, ◌+◌, ◌-◌, ◌/◌, ◌%◌, ◌^◌, ◌<◌, ◌≤◌}
use Rattle.cap_model.specs.bounds.Lengths.{exponent, internal_exponent}
use Rattle.cap_model.specs.words.Fields.{word_perms, word_reserved, word_flag, word_otype, word_ie}
use Rattle.cap_model.specs.words.Fields.{stored_t, stored_b, word_exponent, word_b, word_t14}
use Rattle.cap_model.specs.values.Capability.{Capability, b_field, t_field, upper_of}
use Rattle.cap_model.specs.results.EditedWords.{with_bounds_fields}

-- x is the greatest number at most n that leaves c on division by s: it does, it is at most n, and
-- each number that is so is at most x.
pub record IsGreatestBelow (s c n x : ℕ) : Type 0 where
  pub congruent : x % s ≡ c
  pub at_most : x ≤ n
  pub near : n < x + s
  pub greatest : (y : ℕ) → y % s ≡ c → y ≤ n → y ≤ x

-- The fields of the upper half of a lawful capability's word: those that the capability and its
-- length say, and no reserved bit.
pub record HasItsFields (c : Capability) : Type 0 where
  pub perms : word_perms (upper_of c) ≡ c.perms
  pub reserved : word_reserved (upper_of c) ≡ 0
  pub flag : word_flag (upper_of c) ≡ c.flag
  pub otype : word_otype (upper_of c) ≡ c.otype
  pub ie : word_ie (upper_of c) ≡ internal_exponent (c.top - c.base)
  pub b : word_b (upper_of c) ≡ c.base / 2 ^ exponent (c.top - c.base) % 2 ^ 14
  pub t : word_t14 (upper_of c) ≡ c.top / 2 ^ exponent (c.top - c.base) % 2 ^ 14
  pub exponent : word_exponent (upper_of c) ≡ exponent (c.top - c.base)

-- It has the fields that were given, and the other fields of the upper half.
pub record HasBoundsFields (upper new_ie new_t new_b replaced : ℕ) : Type 0 where
  pub perms : word_perms replaced ≡ word_perms upper
  pub reserved : word_reserved replaced ≡ word_reserved upper
  pub flag : word_flag replaced ≡ word_flag upper
  pub otype : word_otype replaced ≡ word_otype upper
  pub ie : word_ie replaced ≡ new_ie
  pub t : stored_t replaced ≡ new_t
  pub b : stored_b replaced ≡ new_b

-- the upper half of a capability with the fields IE, T and B of these bounds in place of its own
unfoldable pub with_bounds : Capability → ℕ → ℕ → ℕ
with_bounds c base top =
    let len = top - base in
    let ie = internal_exponent len in
    let e = exponent len in
    with_bounds_fields (upper_of c) ie (t_field ie e top) (b_field ie e base)
