-- The fields that bounds are decoded from are the low 27 bits of an upper half: other permissions, another flag and another type leave them.
use Rattle.std.proofs.Common.{◌≡◌, ℕ, ◌+◌, ◌*◌, ◌/◌, ◌%◌, ◌^◌, arith, refl, ◌∙◌}
use Rattle.cap_model.specs.words.Fields.{with_null_fields, field_of_perms, word_ie, stored_t, stored_b, word_exponent, word_b, word_t, word_t14}
use Rattle.cap_model.specs.words.RawBounds.{raw_base, uncorrected_top, raw_top}
use Rattle.cap_model.specs.results.EditedWords.{with_perms, with_flag, with_otype}
use Rattle.cap_model.proofs.Words.FieldsBack.{with_null_fields_twice}
use Rattle.cap_ops.specs.Unpacked.{HasBoundsOf}

pub perms_stay : (upper perms : ℕ) → HasBoundsOf upper (with_perms upper perms)
unfolding with_perms
perms_stay upper perms = rw (with_null_fields_twice (field_of_perms perms * 2 ^ 48 + with_null_fields upper % 2 ^ 48)) (omega arith)

pub flag_stays : (upper flag : ℕ) → HasBoundsOf upper (with_flag upper flag)
unfolding with_flag
flag_stays upper flag =
    rw (with_null_fields_twice (with_null_fields upper / 2 ^ 46 * 2 ^ 46 + flag * 2 ^ 45 + with_null_fields upper % 2 ^ 45)) (omega arith)

pub otype_stays : (upper otype : ℕ) → HasBoundsOf upper (with_otype upper otype)
unfolding with_otype
otype_stays upper otype =
    rw (with_null_fields_twice (with_null_fields upper / 2 ^ 45 * 2 ^ 45 + otype * 2 ^ 27 + with_null_fields upper % 2 ^ 27)) (omega arith)

module _ (u w : ℕ) (same : HasBoundsOf u w) where
  same_ie : word_ie w ≡ word_ie u
  unfolding word_ie
  same_ie = omega (arith, same)

  same_stored_t : stored_t w ≡ stored_t u
  unfolding stored_t
  same_stored_t = omega (arith, same)

  same_stored_b : stored_b w ≡ stored_b u
  unfolding stored_b
  same_stored_b = omega (arith, same)

  same_exponent : word_exponent w ≡ word_exponent u
  unfolding word_exponent
  same_exponent = rw (same_ie, same_stored_t, same_stored_b) refl

  same_b : word_b w ≡ word_b u
  unfolding word_b
  same_b = rw (same_ie, same_stored_b) refl

  same_t : word_t w ≡ word_t u
  unfolding word_t
  same_t = rw (same_ie, same_stored_t) refl

  same_t14 : word_t14 w ≡ word_t14 u
  unfolding word_t14
  same_t14 = rw (same_t, same_b, same_ie) refl

  pub same_base : (addr : ℕ) → raw_base w addr ≡ raw_base u addr
  unfolding raw_base
  same_base addr = rw (same_exponent, same_b) refl

  uncorrected : (addr : ℕ) → uncorrected_top w addr ≡ uncorrected_top u addr
  unfolding uncorrected_top
  uncorrected addr = rw (same_exponent, same_b, same_t14) refl

  pub same_top : (addr : ℕ) → raw_top w addr ≡ raw_top u addr
  unfolding raw_top
  same_top addr = rw (same_exponent, same_base addr, uncorrected addr) refl
