-- An upper half with one field replaced.
use Rattle.std.specs.Prelude.{◌≡◌, ℕ, ◌+◌, ◌-◌, ◌*◌, ◌/◌, ◌%◌, ◌^◌, ◌<◌}
use Rattle.std.proofs.Common.{arith, ap}
use Rattle.cap_model.specs.words.Fields.{with_null_fields, field_of_perms}
use Rattle.cap_model.specs.bounds.Lengths.{exponent, internal_exponent}
use Rattle.cap_model.specs.values.Capability.{Capability, IsLawful, b_field, t_field, upper_of_fields, upper_of}
use Rattle.cap_model.specs.results.EditedWords.{with_perms, with_flag, with_otype, with_bounds_fields}
use Rattle.cap_model.proofs.Words.FieldsBack.{HasFields, with_null_fields_lt}
use Rattle.cap_model.proofs.Words.WordsBack.{upper_has_fields}

module _ (upper perms flag otype ie t b : ℕ) (h : HasFields upper perms flag otype ie t b) where
  -- the fields of before, with one replaced
  pub edited_perms : (n : ℕ) → with_perms upper n ≡ upper_of_fields n flag otype ie t b
  unfolding with_perms upper_of_fields
  edited_perms n =
      let kept : with_null_fields upper % 2 ^ 48 ≡ flag * 2 ^ 45 + otype * 2 ^ 27 + ie * 2 ^ 26 + t * 2 ^ 14 + b = omega (arith, h.packed, h.flag_below, h.otype_below, h.ie_below, h.t_below, h.b_below) in
      ap with_null_fields (omega arith)

  pub edited_flag : (n : ℕ) → with_flag upper n ≡ upper_of_fields perms n otype ie t b
  unfolding with_flag upper_of_fields
  edited_flag n =
      let high : with_null_fields upper / 2 ^ 46 * 2 ^ 46 ≡ field_of_perms perms * 2 ^ 48 = omega (arith, h.packed, h.flag_below, h.otype_below, h.ie_below, h.t_below, h.b_below) in
      let low : with_null_fields upper % 2 ^ 45 ≡ otype * 2 ^ 27 + ie * 2 ^ 26 + t * 2 ^ 14 + b = omega (arith, h.packed, h.flag_below, h.otype_below, h.ie_below, h.t_below, h.b_below) in
      ap with_null_fields (omega arith)

  pub edited_otype : (n : ℕ) → with_otype upper n ≡ upper_of_fields perms flag n ie t b
  unfolding with_otype upper_of_fields
  edited_otype n =
      let high : with_null_fields upper / 2 ^ 45 * 2 ^ 45 ≡ field_of_perms perms * 2 ^ 48 + flag * 2 ^ 45 = omega (arith, h.packed, h.flag_below, h.otype_below, h.ie_below, h.t_below, h.b_below) in
      let low : with_null_fields upper % 2 ^ 27 ≡ ie * 2 ^ 26 + t * 2 ^ 14 + b = omega (arith, h.packed, h.flag_below, h.otype_below, h.ie_below, h.t_below, h.b_below) in
      ap with_null_fields (omega arith)

  pub edited_bounds : (new_ie new_t new_b : ℕ) → with_bounds_fields upper new_ie new_t new_b ≡ upper_of_fields perms flag otype new_ie new_t new_b
  unfolding with_bounds_fields upper_of_fields
  edited_bounds new_ie new_t new_b =
      let kept : with_null_fields upper / 2 ^ 27 * 2 ^ 27 ≡ field_of_perms perms * 2 ^ 48 + flag * 2 ^ 45 + otype * 2 ^ 27 = omega (arith, h.packed, h.flag_below, h.otype_below, h.ie_below, h.t_below, h.b_below) in
      ap with_null_fields (omega arith)

-- the same of a lawful capability's upper half
pub upper_with_perms : (c : Capability) (n : ℕ) → IsLawful c → with_perms (upper_of c) n ≡ upper_of (record c { perms = n })
unfolding upper_of
upper_with_perms c n h = edited_perms (upper_of c) _ _ _ _ _ _ (upper_has_fields c h) n

pub upper_with_flag : (c : Capability) (n : ℕ) → IsLawful c → with_flag (upper_of c) n ≡ upper_of (record c { flag = n })
unfolding upper_of
upper_with_flag c n h = edited_flag (upper_of c) _ _ _ _ _ _ (upper_has_fields c h) n

pub upper_with_otype : (c : Capability) (n : ℕ) → IsLawful c → with_otype (upper_of c) n ≡ upper_of (record c { otype = n })
unfolding upper_of
upper_with_otype c n h = edited_otype (upper_of c) _ _ _ _ _ _ (upper_has_fields c h) n

pub upper_with_bounds : (c : Capability) (base top : ℕ) → IsLawful c →
    with_bounds_fields (upper_of c) (internal_exponent (top - base))
    (t_field (internal_exponent (top - base)) (exponent (top - base)) top)
    (b_field (internal_exponent (top - base)) (exponent (top - base)) base)
    ≡ upper_of (record c { base = base; top = top })
unfolding upper_of
upper_with_bounds c base top h = edited_bounds (upper_of c) _ _ _ _ _ _ (upper_has_fields c h) _ _ _

-- an edited upper half has 64 bits
pub edited_perms_lt : (upper n : ℕ) → n < 2 ^ 19 → with_perms upper n < 2 ^ 64
unfolding with_perms
edited_perms_lt upper n p = with_null_fields_lt _ (omega arith)

pub edited_flag_lt : (upper n : ℕ) → upper < 2 ^ 64 → n < 2 → with_flag upper n < 2 ^ 64
unfolding with_flag
edited_flag_lt upper n p q = let fields = with_null_fields_lt upper p in with_null_fields_lt _ (omega arith)

pub edited_otype_lt : (upper n : ℕ) → upper < 2 ^ 64 → n < 2 ^ 18 → with_otype upper n < 2 ^ 64
unfolding with_otype
edited_otype_lt upper n p q = let fields = with_null_fields_lt upper p in with_null_fields_lt _ (omega arith)

pub edited_bounds_lt : (upper ie t b : ℕ) → upper < 2 ^ 64 → ie < 2 → t < 2 ^ 12 → b < 2 ^ 14 → with_bounds_fields upper ie t b < 2 ^ 64
unfolding with_bounds_fields
edited_bounds_lt upper ie t b p i q r = let fields = with_null_fields_lt upper p in with_null_fields_lt _ (omega arith)
