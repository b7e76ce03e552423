-- An upper half in which the fields of the bounds are replaced.
use Rattle.std.specs.Prelude.{◌≡◌, ℕ, ◌+◌, ◌*◌, ◌/◌, ◌^◌, ◌<◌}
use Rattle.std.proofs.Common.{arith}
use Rattle.cap_model.specs.words.Fields.{with_null_fields, field_of_perms, word_perms, word_reserved, word_flag, word_otype, word_ie, stored_t, stored_b}
use Rattle.cap_model.specs.values.Capability.{Capability, IsLawful, upper_of_fields, upper_of}
use Rattle.cap_model.specs.results.EditedWords.{with_bounds_fields}
use Rattle.cap_model.specs.words.WordLaws.{HasBoundsFields, with_bounds}
use Rattle.cap_model.proofs.Words.FieldsBack.{HasFields, with_null_fields_twice}
use Rattle.cap_model.proofs.Words.WordsBack.{upper_has_fields}

-- what is under null's fields
replaced_packed : (upper ie t b : ℕ) →
    with_null_fields (with_bounds_fields upper ie t b) ≡ with_null_fields upper / 2 ^ 27 * 2 ^ 27 + ie * 2 ^ 26 + t * 2 ^ 14 + b
unfolding with_bounds_fields
replaced_packed upper ie t b = with_null_fields_twice _

-- the fields that were given, and the other fields of before
pub replaced_fields : (upper ie t b : ℕ) → ie < 2 → t < 2 ^ 12 → b < 2 ^ 14 → HasBoundsFields upper ie t b (with_bounds_fields upper ie t b)
unfolding word_perms word_reserved word_flag word_otype word_ie stored_t stored_b
replaced_fields upper ie t b p q r =
    let packed = replaced_packed upper ie t b in
    record {
      perms = rw packed (omega arith);
      reserved = rw packed (omega arith);
      flag = rw packed (omega arith);
      otype = rw packed (omega arith);
      ie = rw packed (omega arith);
      t = rw packed (omega arith);
      b = rw packed (omega arith);
    }

-- the fields of before, above those that are given
replaced_from : (upper perms flag otype ie t b new_ie new_t new_b : ℕ) → HasFields upper perms flag otype ie t b →
    with_bounds_fields upper new_ie new_t new_b ≡ upper_of_fields perms flag otype new_ie new_t new_b
unfolding with_bounds_fields upper_of_fields
replaced_from upper perms flag otype ie t b new_ie new_t new_b h =
    let packed = h.packed in
    let ie_below = h.ie_below in
    let t_below = h.t_below in
    let b_below = h.b_below in
    let kept : with_null_fields upper / 2 ^ 27 * 2 ^ 27 ≡ field_of_perms perms * 2 ^ 48 + flag * 2 ^ 45 + otype * 2 ^ 27 = omega arith in
    rw kept

-- with the fields of other bounds it is the upper half of the capability with these bounds
pub replaced_upper : (c : Capability) → IsLawful c → (base top : ℕ) → with_bounds c base top ≡ upper_of (record c { base = base; top = top })
unfolding with_bounds upper_of
replaced_upper c h base top = replaced_from (upper_of c) _ _ _ _ _ _ _ _ _ (upper_has_fields c h)
