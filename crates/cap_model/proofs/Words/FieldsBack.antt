-- The fields of an upper half that was made of fields.
use Rattle.std.specs.Prelude.{◌≡◌, ℕ, ◌+◌, ◌*◌, ◌^◌, ◌<◌}
use Rattle.std.proofs.Common.{arith}
use Rattle.std.proofs.lemmas.Nat.{xor_lt}
use Rattle.std.specs.Int.Bits.{xor_assoc, xor_self, xor_zero_r}
use Rattle.cap_model.specs.words.Fields.{null_fields, with_null_fields, field_of_perms, word_perms, word_reserved, word_flag, word_otype, word_ie, stored_t, stored_b}
use Rattle.cap_model.specs.values.Capability.{IsPermissionSet}

-- exclusive-or with null's fields twice changes nothing
pub with_null_fields_twice : (n : ℕ) → with_null_fields (with_null_fields n) ≡ n
unfolding with_null_fields
with_null_fields_twice n = rw (xor_assoc, xor_self, xor_zero_r)

-- exclusive-or with null's fields stays below 2^64
pub with_null_fields_lt : (n : ℕ) → n < 2 ^ 64 → with_null_fields n < 2 ^ 64
unfolding with_null_fields
with_null_fields_lt n h = xor_lt 64 n null_fields h (omega arith)

-- the fields of an upper half, whose reserved bits are 0
pub record HasFields (upper perms flag otype ie t b : ℕ) : Type 0 where
  pub packed : with_null_fields upper ≡ field_of_perms perms * 2 ^ 48 + flag * 2 ^ 45 + otype * 2 ^ 27 + ie * 2 ^ 26 + t * 2 ^ 14 + b
  pub perms_known : IsPermissionSet perms
  pub flag_below : flag < 2
  pub otype_below : otype < 2 ^ 18
  pub ie_below : ie < 2
  pub t_below : t < 2 ^ 12
  pub b_below : b < 2 ^ 14

module _ (upper perms flag otype ie t b : ℕ) (h : HasFields upper perms flag otype ie t b) where
  -- its permissions
  pub has_perms : word_perms upper ≡ perms
  unfolding word_perms
  has_perms = rw h.packed (omega arith)

  -- its reserved bits
  pub has_reserved : word_reserved upper ≡ 0
  unfolding word_reserved
  has_reserved = rw h.packed (omega arith)

  -- its flag
  pub has_flag : word_flag upper ≡ flag
  unfolding word_flag
  has_flag = rw h.packed (omega arith)

  -- its object type
  pub has_otype : word_otype upper ≡ otype
  unfolding word_otype
  has_otype = rw h.packed (omega arith)

  -- its IE
  pub has_ie : word_ie upper ≡ ie
  unfolding word_ie
  has_ie = rw h.packed (omega arith)

  -- its T as stored
  pub has_t : stored_t upper ≡ t
  unfolding stored_t
  has_t = rw h.packed (omega arith)

  -- its B as stored
  pub has_b : stored_b upper ≡ b
  unfolding stored_b
  has_b = rw h.packed (omega arith)

  -- it has 64 bits
  pub has_64_bits : upper < 2 ^ 64
  has_64_bits = rw (← with_null_fields_twice upper) (with_null_fields_lt (with_null_fields upper) (rw h.packed (omega arith)))
