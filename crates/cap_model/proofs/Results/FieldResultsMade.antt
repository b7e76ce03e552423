-- The results of instructions that replace a field, and of sealing: the word and the tag of each, for lawful values.
use Rattle.std.specs.Prelude.{◌≡◌, ℕ, ◌*◌, ◌/◌, ◌%◌, ◌^◌, ◌<◌, ◌==◌, true, ◌&&◌, bit_and}
use Rattle.std.proofs.Common.{arith, leb-true, inl, inr}
use Rattle.std.proofs.lemmas.Bool.{and_parts, cases_Bool}
use Rattle.cap_model.specs.values.Capability.{IsPermissionSet, IsLawfulType, unsealed_type, sentry_type}
use Rattle.cap_model.specs.values.CapValue.{CapValue, bits_of, tag_of, parts_of, IsLawfulValue}
use Rattle.cap_model.specs.results.EditedWords.{with_perms, with_flag, with_otype, word_with_upper}
use Rattle.cap_model.specs.results.Addresses.{address_of, is_open, has_permission}
use Rattle.cap_model.specs.results.Fields.{and_perm, set_flags}
use Rattle.cap_model.specs.results.Seals.{global_permission, execute_permission, seal_permission, unseal_permission, is_sealable, has_type_authority, word_with_otype, seal, unsealed_perms, unseal, seal_entry, unsealed}
use Rattle.cap_model.proofs.Results.PermissionSets.{perms_in_mask}
use Rattle.cap_model.proofs.Words.FieldsEdited.{edited_perms_lt, edited_flag_lt, edited_otype_lt}
use Rattle.cap_model.proofs.Words.WordsEdited.{word_with_another_otype, word_with_another_flag, word_with_other_perms, word_with_perms_and_otype}
use Rattle.cap_model.proofs.Results.Values.{IsResult, result_of, bits_lt, tagged_parts, open_parts, perms_known, word_with_upper_lt}

-- the upper half of a lawful value's bits
upper_below : (v : CapValue) → IsLawfulValue v → bits_of v / 2 ^ 64 < 2 ^ 64
upper_below v h = let below = bits_lt v h in omega arith

-- CAndPerm
pub and_perm-result : (v : CapValue) (mask : ℕ) → IsLawfulValue v →
    IsResult (and_perm v mask) (is_open v)
    (word_with_upper (bits_of v) (with_perms (bits_of v / 2 ^ 64) (bit_and (parts_of v).perms mask)))
unfolding and_perm
and_perm-result v mask h =
    let known = perms_in_mask (parts_of v).perms mask (perms_known v h) in
    result_of (is_open v) (record (parts_of v) { perms = bit_and (parts_of v).perms mask }) _
    (word_with_upper_lt _ _ (edited_perms_lt _ _ known.below))
    (λ t.
    let tagged = open_parts v h t in
    rw tagged.bits (word_with_other_perms (parts_of v) _ tagged.lawful known))

-- CSetFlags
pub set_flags-result : (v : CapValue) (flags : ℕ) → IsLawfulValue v →
    IsResult (set_flags v flags) (is_open v) (word_with_upper (bits_of v) (with_flag (bits_of v / 2 ^ 64) (flags % 2)))
unfolding set_flags
set_flags-result v flags h =
    result_of (is_open v) (record (parts_of v) { flag = flags % 2 }) _
    (word_with_upper_lt _ _ (edited_flag_lt _ _ (upper_below v h) (omega arith)))
    (λ t.
    let tagged = open_parts v h t in
    rw tagged.bits (word_with_another_flag (parts_of v) _ tagged.lawful (omega arith)))

-- the object types that sealing gives are lawful
pub sealable_is_lawful : (n : ℕ) → is_sealable n ≡ true → IsLawfulType (n % 2 ^ 18)
sealable_is_lawful n t =
    let most = leb-true _ _ t in
    record { below = omega arith; not_reserved = λ e. omega arith; not_reserved_either = λ e. omega arith }

pub unsealed_is_lawful : IsLawfulType unsealed_type
unsealed_is_lawful = record { below = omega arith; not_reserved = λ e. omega arith; not_reserved_either = λ e. omega arith }

pub sentry_is_lawful : IsLawfulType sentry_type
sentry_is_lawful = record { below = omega arith; not_reserved = λ e. omega arith; not_reserved_either = λ e. omega arith }

-- CSeal
pub seal-result : (v authority : CapValue) → IsLawfulValue v →
    IsResult (seal v authority)
    (is_open v && has_type_authority authority seal_permission && is_sealable (address_of authority))
    (word_with_upper (bits_of v) (with_otype (bits_of v / 2 ^ 64) (address_of authority % 2 ^ 18)))
unfolding seal word_with_otype
seal-result v authority h =
    result_of _ (record (parts_of v) { otype = address_of authority % 2 ^ 18 }) _
    (word_with_upper_lt _ _ (edited_otype_lt _ _ (upper_below v h) (omega arith)))
    (λ t.
    let both = and_parts (is_open v && has_type_authority authority seal_permission) _ t in
    let tagged = open_parts v h (and_parts (is_open v) _ both.0).0 in
    rw tagged.bits (word_with_another_otype (parts_of v) _ tagged.lawful (sealable_is_lawful _ both.1)))

-- CSealEntry
pub seal_entry-result : (v : CapValue) → IsLawfulValue v →
    IsResult (seal_entry v) (is_open v && has_permission v execute_permission)
    (word_with_upper (bits_of v) (with_otype (bits_of v / 2 ^ 64) sentry_type))
unfolding seal_entry word_with_otype
seal_entry-result v h =
    result_of _ (record (parts_of v) { otype = sentry_type }) _
    (word_with_upper_lt _ _ (edited_otype_lt _ _ (upper_below v h) (omega arith)))
    (λ t.
    let tagged = open_parts v h (and_parts (is_open v) _ t).0 in
    rw tagged.bits (word_with_another_otype (parts_of v) _ tagged.lawful sentry_is_lawful))

-- unsealed by a jump
pub unsealed-result : (v : CapValue) → IsLawfulValue v →
    IsResult (unsealed v) (tag_of v) (word_with_upper (bits_of v) (with_otype (bits_of v / 2 ^ 64) unsealed_type))
unfolding unsealed word_with_otype
unsealed-result v h =
    result_of (tag_of v) (record (parts_of v) { otype = unsealed_type }) _
    (word_with_upper_lt _ _ (edited_otype_lt _ _ (upper_below v h) (omega arith)))
    (λ t.
    let tagged = tagged_parts v h t in
    rw tagged.bits (word_with_another_otype (parts_of v) _ tagged.lawful unsealed_is_lawful))

-- the permissions after unsealing are known
without_global : (perms : ℕ) → IsPermissionSet perms → IsPermissionSet (perms / 2 * 2)
without_global perms h = let known = h.known in record { below = omega (arith, h.below); known = omega arith }

pub unsealed_perms_known : (v authority : CapValue) → IsLawfulValue v → IsPermissionSet (unsealed_perms v authority)
unsealed_perms_known v authority h = elim (cases_Bool (has_permission authority global_permission)) [
  | inl global ↦ rw global (perms_known v h)
  | inr local ↦ rw local (without_global (parts_of v).perms (perms_known v h))
]

-- CUnseal
pub unseal-result : (v authority : CapValue) → IsLawfulValue v →
    IsResult (unseal v authority)
    (tag_of v && is_sealable (parts_of v).otype && has_type_authority authority unseal_permission && (address_of authority == (parts_of v).otype))
    (word_with_upper (bits_of v) (with_perms (with_otype (bits_of v / 2 ^ 64) unsealed_type) (unsealed_perms v authority)))
unfolding unseal
unseal-result v authority h =
    let known = unsealed_perms_known v authority h in
    result_of _ (record (parts_of v) { perms = unsealed_perms v authority; otype = unsealed_type }) _
    (word_with_upper_lt _ _ (edited_perms_lt _ _ known.below))
    (λ t.
    let all = and_parts (tag_of v && is_sealable (parts_of v).otype && has_type_authority authority unseal_permission) _ t in
    let some = and_parts (tag_of v && is_sealable (parts_of v).otype) _ all.0 in
    let tagged = tagged_parts v h (and_parts (tag_of v) _ some.0).0 in
    rw tagged.bits (word_with_perms_and_otype (parts_of v) _ unsealed_type tagged.lawful known unsealed_is_lawful))
