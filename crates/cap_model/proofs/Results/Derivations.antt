-- Each capability instruction gives lawful values, and its tagged results are derived from its sources.
use Rattle.std.specs.Prelude.{◌≡◌, ℕ, ◌+◌, ◌*◌, ◌/◌, ◌%◌, ◌^◌, ◌<◌, ◌==◌, nat_le, Bool, true, false, ◌&&◌, ◌⊎◌, bit_and}
use Rattle.std.proofs.Common.{arith, refl, ap, sym, ◌∙◌, leb-true, inl, inr}
use Rattle.std.specs.Int.Bits.{and_self, and_comm}
use Rattle.std.proofs.lemmas.Nat.{and_assoc, and_block}
use Rattle.std.proofs.lemmas.Bool.{and_parts, false≢true, cases_Bool}
use Rattle.cap_model.specs.values.Capability.{Capability, unsealed_type, sentry_type, capability_at}
use Rattle.cap_model.specs.values.CapValue.{CapValue, valid, raw, bits_of, tag_of, parts_of, tagged_where, IsLawfulValue}
use Rattle.cap_model.specs.results.Addresses.{address_of, is_open, has_permission, in_bounds, keeps_bounds, is_exact, set_address, inc_offset, with_bounds_of_rounding, set_bounds, set_bounds_exact}
use Rattle.cap_model.specs.results.Fields.{and_perm, set_flags, set_high}
use Rattle.cap_model.specs.results.Seals.{global_permission, seal_permission, unseal_permission, execute_permission, is_sealable, has_type_authority, seal, unsealed_perms, unseal, seal_entry, unsealed}
use Rattle.cap_model.specs.results.CapInstructions.{CapInstruction, CMove, CClearTag, CSetAddr, CIncOffset, CSetBounds, CSetBoundsExact, CAndPerm, CSetFlags, CSetHigh, CSeal, CUnseal, CSealEntry, CBuildCap, UnsealedByJump, capability_result}
use Rattle.cap_model.specs.results.Rebuilt.{build, unsealed_parts}
use Rattle.cap_model.specs.results.Derivation.{IsWithin}
use Rattle.cap_model.specs.results.Derivation.{IsDerived}
use Rattle.cap_model.proofs.Words.BoundsRounded.{rounding_from, rounding_to}
use Rattle.cap_model.proofs.Results.Values.{result_is_lawful, bits_lt, open_parts, word_with_upper_lt}
use Rattle.cap_model.proofs.Results.AddressResults.{set_address-result, set_bounds-result, set_bounds_exact-result}
use Rattle.cap_model.proofs.Results.Rebuildings.{can_build, built_lawful}
use Rattle.cap_model.proofs.Results.FieldResultsMade.{and_perm-result, set_flags-result, seal-result, unseal-result, seal_entry-result, unsealed-result}

-- an address has 64 bits
pub address_lt : (v : CapValue) → IsLawfulValue v → address_of v < 2 ^ 64
unfolding address_of capability_at
address_lt (valid c) h = h.addr_below
address_lt (raw word) h = omega arith

-- each result is lawful
pub result_lawful : (i : CapInstruction) (v w : CapValue) → IsLawfulValue v → IsLawfulValue w → IsLawfulValue (capability_result i v w)
unfolding capability_result inc_offset set_high
result_lawful CMove v w h k = h
result_lawful CClearTag v w h k = bits_lt v h
result_lawful CSetAddr v w h k = result_is_lawful (set_address-result v (address_of w) h (address_lt w k))
result_lawful CIncOffset v w h k = result_is_lawful (set_address-result v ((address_of v + address_of w) % 2 ^ 64) h (omega arith))
result_lawful CSetBounds v w h k = let below = address_lt w k in result_is_lawful (set_bounds-result v (address_of w) h (omega arith))
result_lawful CSetBoundsExact v w h k = let below = address_lt w k in result_is_lawful (set_bounds_exact-result v (address_of w) h (omega arith))
result_lawful CAndPerm v w h k = result_is_lawful (and_perm-result v (address_of w) h)
result_lawful CSetFlags v w h k = result_is_lawful (set_flags-result v (address_of w) h)
result_lawful CSetHigh v w h k = word_with_upper_lt (bits_of v) (address_of w) (address_lt w k)
result_lawful CSeal v w h k = result_is_lawful (seal-result v w h)
result_lawful CUnseal v w h k = result_is_lawful (unseal-result v w h)
result_lawful CSealEntry v w h k = result_is_lawful (seal_entry-result v h)
result_lawful CBuildCap v w h k = built_lawful v w h k
result_lawful UnsealedByJump v w h k = result_is_lawful (unsealed-result v h)

-- what the changed capability is to the sources
record IsNarrowed (c : Capability) (v w : CapValue) : Type 0 where
  source : tag_of v ≡ true
  within : IsWithin c (parts_of v)
  sealed : is_sealable c.otype ≡ true → (c.otype ≡ (parts_of v).otype) ⊎ ((has_type_authority w seal_permission ≡ true) × (c.otype ≡ address_of w))

derived_where : (tag : Bool) (c : Capability) (word : ℕ) (v w : CapValue) → (tag ≡ true → IsNarrowed c v w) →
    tag_of (tagged_where tag c word) ≡ true → IsDerived (tagged_where tag c word) v w
derived_where true c word v w n t = let m = n refl in record { source = m.source; within = m.within; sealed = m.sealed }
derived_where false c word v w n t = absurd (false≢true t)

-- capabilities with the same bounds and fewer permissions
within_itself : (c : Capability) → IsWithin c c
within_itself c = record { base = omega arith; top = omega arith; perms = and_self c.perms }

fewer_perms : (p m : ℕ) → bit_and (bit_and p m) p ≡ bit_and p m
fewer_perms p m = and_comm (bit_and p m) p ∙ sym (and_assoc m p p) ∙ ap (λ (n : ℕ). bit_and n m) (and_self p)

open_tagged : (v : CapValue) → is_open v ≡ true → tag_of v ≡ true
open_tagged v t = (and_parts (tag_of v) _ t).0

-- CSetAddr, whose result may have another address alone
address_derived : (v w : CapValue) (a : ℕ) → tag_of (set_address v a) ≡ true → IsDerived (set_address v a) v w
unfolding set_address
address_derived v w a =
    derived_where (is_open v && keeps_bounds v a) (record (parts_of v) { addr = a }) _ v w
    (λ t. record {
      source = open_tagged v (and_parts (is_open v) _ t).0;
      within = record { base = omega arith; top = omega arith; perms = and_self _ };
      sealed = λ s. inl refl;
    })

-- the bounds of a rounding
rounding_narrows : (v w : CapValue) (len : ℕ) → IsLawfulValue v → is_open v ≡ true → in_bounds v (address_of v) len ≡ true →
    IsNarrowed (with_bounds_of_rounding v len) v w
unfolding address_of
rounding_narrows v w len h o t =
    let inside = and_parts (nat_le (parts_of v).base (parts_of v).addr) _ t in
    let tagged = open_parts v h o in
    let from = leb-true _ _ inside.0 in
    let to = leb-true _ _ inside.1 in
    record {
      source = open_tagged v o;
      within =
          record {
            base = rounding_from (parts_of v) (parts_of v).addr len tagged.lawful from to;
            top = rounding_to (parts_of v) (parts_of v).addr len tagged.lawful from to;
            perms = and_self _;
          };
      sealed = λ s. inl refl;
    }

bounds_derived : (v w : CapValue) (len : ℕ) → IsLawfulValue v → tag_of (set_bounds v len) ≡ true → IsDerived (set_bounds v len) v w
unfolding set_bounds
bounds_derived v w len h =
    derived_where (is_open v && in_bounds v (address_of v) len) (with_bounds_of_rounding v len) _ v w
    (λ t. let both = and_parts (is_open v) _ t in rounding_narrows v w len h both.0 both.1)

exact_bounds_derived : (v w : CapValue) (len : ℕ) → IsLawfulValue v → tag_of (set_bounds_exact v len) ≡ true → IsDerived (set_bounds_exact v len) v w
unfolding set_bounds_exact
exact_bounds_derived v w len h =
    derived_where (is_open v && in_bounds v (address_of v) len && is_exact (address_of v) len) (with_bounds_of_rounding v len) _ v w
    (λ t.
    let all = and_parts (is_open v && in_bounds v (address_of v) len) _ t in
    let both = and_parts (is_open v) _ all.0 in
    rounding_narrows v w len h both.0 both.1)

-- the permissions and the flag
perms_derived : (v w : CapValue) (mask : ℕ) → tag_of (and_perm v mask) ≡ true → IsDerived (and_perm v mask) v w
unfolding and_perm
perms_derived v w mask =
    derived_where (is_open v) (record (parts_of v) { perms = bit_and (parts_of v).perms mask }) _ v w
    (λ t. record {
      source = open_tagged v t;
      within = record { base = omega arith; top = omega arith; perms = fewer_perms (parts_of v).perms mask };
      sealed = λ s. inl refl;
    })

flags_derived : (v w : CapValue) (flags : ℕ) → tag_of (set_flags v flags) ≡ true → IsDerived (set_flags v flags) v w
unfolding set_flags
flags_derived v w flags =
    derived_where (is_open v) (record (parts_of v) { flag = flags % 2 }) _ v w
    (λ t. record {
      source = open_tagged v t;
      within = record { base = omega arith; top = omega arith; perms = and_self _ };
      sealed = λ s. inl refl;
    })

-- neither unsealed nor sentry is a sealable type
unsealed_not_sealable : is_sealable unsealed_type ≡ true → ⊥
unsealed_not_sealable t = false≢true t

sentry_not_sealable : is_sealable sentry_type ≡ true → ⊥
sentry_not_sealable t = false≢true t

-- sealing
seal_derived : (v w : CapValue) → tag_of (seal v w) ≡ true → IsDerived (seal v w) v w
unfolding seal
seal_derived v w =
    derived_where (is_open v && has_type_authority w seal_permission && is_sealable (address_of w)) (record (parts_of v) { otype = address_of w % 2 ^ 18 }) _ v w
    (λ t.
    let all = and_parts (is_open v && has_type_authority w seal_permission) _ t in
    let both = and_parts (is_open v) _ all.0 in
    let most = leb-true _ _ all.1 in
    record {
      source = open_tagged v both.0;
      within = record { base = omega arith; top = omega arith; perms = and_self _ };
      sealed = λ s. inr (both.1, omega arith);
    })

entry_derived : (v w : CapValue) → tag_of (seal_entry v) ≡ true → IsDerived (seal_entry v) v w
unfolding seal_entry
entry_derived v w =
    derived_where (is_open v && has_permission v execute_permission) (record (parts_of v) { otype = sentry_type }) _ v w
    (λ t. record {
      source = open_tagged v (and_parts (is_open v) _ t).0;
      within = record { base = omega arith; top = omega arith; perms = and_self _ };
      sealed = λ s. absurd (sentry_not_sealable s);
    })

unsealed_derived : (v w : CapValue) → tag_of (unsealed v) ≡ true → IsDerived (unsealed v) v w
unfolding unsealed
unsealed_derived v w =
    derived_where (tag_of v) (record (parts_of v) { otype = unsealed_type }) _ v w
    (λ t. record {
      source = t;
      within = record { base = omega arith; top = omega arith; perms = and_self _ };
      sealed = λ s. absurd (unsealed_not_sealable s);
    })

-- without Global there are fewer permissions
without_global : (p : ℕ) → bit_and (p / 2 * 2) p ≡ p / 2 * 2
without_global p =
    let block : bit_and (p / 2 * 2 + 0) (p / 2 * 2 + p % 2) ≡ bit_and (p / 2) (p / 2) * 2 + 0 =
    and_block 1 (p / 2) (p / 2) 0 (p % 2) (omega arith) (omega arith) in
    let even : p / 2 * 2 + 0 ≡ p / 2 * 2 = omega arith in
    let whole : p / 2 * 2 + p % 2 ≡ p = omega arith in
    let same = and_self (p / 2) in
    ap (λ (n : ℕ). bit_and n p) (sym even) ∙ ap (bit_and (p / 2 * 2 + 0)) (sym whole) ∙ block ∙ omega arith

fewer_unsealed_perms : (v w : CapValue) → bit_and (unsealed_perms v w) (parts_of v).perms ≡ unsealed_perms v w
fewer_unsealed_perms v w = elim (cases_Bool (has_permission w global_permission)) [
  | inl global ↦ rw global (and_self _)
  | inr local ↦ rw local (without_global (parts_of v).perms)
]

unseal_derived : (v w : CapValue) → tag_of (unseal v w) ≡ true → IsDerived (unseal v w) v w
unfolding unseal
unseal_derived v w =
    derived_where
    (tag_of v && is_sealable (parts_of v).otype && has_type_authority w unseal_permission && (address_of w == (parts_of v).otype))
    (record (parts_of v) { perms = unsealed_perms v w; otype = unsealed_type }) _ v w
    (λ t.
    let all = and_parts (tag_of v && is_sealable (parts_of v).otype && has_type_authority w unseal_permission) _ t in
    let some = and_parts (tag_of v && is_sealable (parts_of v).otype) _ all.0 in
    record {
      source = (and_parts (tag_of v) _ some.0).0;
      within = record { base = omega arith; top = omega arith; perms = fewer_unsealed_perms v w };
      sealed = λ s. absurd (unsealed_not_sealable s);
    })

-- CBuildCap, whose first source is the authority
build_derived : (v w : CapValue) → tag_of (build v w) ≡ true → IsDerived (build v w) v w
unfolding build
build_derived v w =
    derived_where _ (unsealed_parts w) _ v w
    (λ t.
    let can = can_build v w t in
    record {
      source = open_tagged v can.opened;
      within = record { base = can.base; top = can.top; perms = can.perms };
      sealed = λ s. absurd (unsealed_not_sealable s);
    })

-- every tagged result is derived from its sources
pub result_derived : (i : CapInstruction) (v w : CapValue) → IsLawfulValue v → tag_of (capability_result i v w) ≡ true →
    IsDerived (capability_result i v w) v w
unfolding capability_result inc_offset set_high
result_derived CMove v w h t = record { source = t; within = within_itself (parts_of v); sealed = λ s. inl refl }
result_derived CClearTag v w h t = absurd (false≢true t)
result_derived CSetAddr v w h t = address_derived v w (address_of w) t
result_derived CIncOffset v w h t = address_derived v w ((address_of v + address_of w) % 2 ^ 64) t
result_derived CSetBounds v w h t = bounds_derived v w (address_of w) h t
result_derived CSetBoundsExact v w h t = exact_bounds_derived v w (address_of w) h t
result_derived CAndPerm v w h t = perms_derived v w (address_of w) t
result_derived CSetFlags v w h t = flags_derived v w (address_of w) t
result_derived CSetHigh v w h t = absurd (false≢true t)
result_derived CSeal v w h t = seal_derived v w t
result_derived CUnseal v w h t = unseal_derived v w t
result_derived CSealEntry v w h t = entry_derived v w t
result_derived CBuildCap v w h t = build_derived v w t
result_derived UnsealedByJump v w h t = unsealed_derived v w t
