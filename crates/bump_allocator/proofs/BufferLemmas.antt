-- A region's capability, moved to an aligned address and narrowed there, has just the bounds that
-- were asked for.
use Rattle.std.specs.Prelude.{◌≡◌, ◌≢◌, ℕ, ◌+◌, ◌-◌, ◌^◌, ◌<◌, ◌≤◌, true, ◌==◌, Option, Some, None}
use Rattle.std.proofs.Common.{refl, subst, inl, inr, arith}
use Rattle.cap_model.specs.bounds.Window.{IsInWindow}
use Rattle.std.proofs.Math.Nat.{mod-eq_of_lt, one-le-pow, pow-le-pow_right}
use Rattle.std.proofs.lemmas.Bool.{and_parts, cases_Bool, cases_lt, eq-eqb, le-leb, le-ltb, lt-ltb}
use Rattle.cap_model.specs.bounds.Lengths.{alignment}
use Rattle.cap_model.specs.bounds.Alignment.{length_at_zero, alignment_mask, representable_length}
use Rattle.cap_model.specs.values.Capability.{Capability, unsealed_type}
use Rattle.cap_model.specs.values.CapValue.{CapValue, valid, tag_of, parts_of}
use Rattle.cap_model.specs.results.Addresses.{address_of, is_open, keeps_bounds, set_address, set_bounds_exact}
use Rattle.cap_model.proofs.Rounding.Alignments.{length_at_zero_alignment, aligned_base_exact, aligned_top_exact, length_at_zero_at_most, length_at_zero_from, representable_length_whole, representable_length_none}
use Rattle.cap_model.proofs.Rounding.Roundings.{rounding_bits, rounding_bits_at_most}
use Rattle.cap_model.proofs.Bounds.WindowsHold.{lawful_bounds_in_window}
use Rattle.cap_model.proofs.Results.AddressResults.{test_of_window}
use Rattle.cap_model.proofs.Results.Values.{open_parts}
use Rattle.cap_model.specs.bounds.Rounding.{rounded_base, rounded_top}
use Rattle.cap_model.proofs.Rounding.Multiples.{round_up_at_least, round_up_multiple}
use Rattle.bump_allocator.specs.Buffers.{Allocator, IsAllocator, IsBuffer, start_of, end_of, fits, buffer, after, exact_length}

-- the alignment is a power of two up to 2^55
alignment_bits : (len : ℕ) → len < 2 ^ 64 → alignment (length_at_zero len) ≡ 2 ^ rounding_bits 0 len
alignment_bits len below = length_at_zero_alignment len (omega arith)

pub alignment_positive : (len : ℕ) → len < 2 ^ 64 → 0 < alignment (length_at_zero len)
alignment_positive len below = rw (alignment_bits len below) (one-le-pow (rounding_bits 0 len) 2 (omega arith))

pub alignment_at_most : (len : ℕ) → len < 2 ^ 64 → alignment (length_at_zero len) ≤ 2 ^ 55
alignment_at_most len below =
    rw (alignment_bits len below) (pow-le-pow_right (omega arith) (rounding_bits_at_most 0 len (omega arith)))

pub alignment_of_mask : (len : ℕ) → len < 2 ^ 64 → 2 ^ 64 - alignment_mask len ≡ alignment (length_at_zero len)
unfolding alignment_mask
alignment_of_mask len below = omega (arith, alignment_at_most len below)

-- what CRRL gives is 0 just where no register holds the length
pub length_none : (len : ℕ) → 0 < len → len < 2 ^ 64 → representable_length len ≡ 0 → None ≡ exact_length len
unfolding exact_length
length_none len positive below zero = elim (cases_lt (length_at_zero len) (2 ^ 64)) [
  | inl whole ↦ absurd (omega (arith, representable_length_whole len whole, length_at_zero_from len))
  | inr most ↦ rw (le-ltb _ _ most) refl
]

pub length_some : (len : ℕ) → len < 2 ^ 64 → representable_length len ≢ 0 → Some (representable_length len) ≡ exact_length len
unfolding exact_length
length_some len below some = elim (cases_lt (length_at_zero len) (2 ^ 64)) [
  | inl whole ↦ rw (lt-ltb _ _ whole, representable_length_whole len whole) refl
  | inr most ↦ absurd (some (representable_length_none len (omega (arith, length_at_zero_at_most len (omega arith)))))
]

-- an exact length is at least what was asked for
pub exact_length_is : (len length : ℕ) → Some length ≡ exact_length len → (length ≡ length_at_zero len) × (length < 2 ^ 64) × (len ≤ length)
unfolding exact_length
exact_length_is len length is = elim (cases_lt (length_at_zero len) (2 ^ 64)) [
  | inl whole ↦
      (let some = rw (lt-ltb _ _ whole) at is in
      let same : length ≡ length_at_zero len = cc in
      (same, omega (arith, same), omega (arith, same, length_at_zero_from len)))
  | inr most ↦ (let none = rw (le-ltb _ _ most) at is in absurd (cc))
]

-- CSetAddr of an open value, to an address at which it keeps its bounds
moved : (v : CapValue) (a : ℕ) → is_open v ≡ true → keeps_bounds v a ≡ true → set_address v a ≡ valid (record (parts_of v) { addr = a })
unfolding set_address
moved v a is_open keeps = rw (is_open, keeps) refl

-- CSetBoundsExact of an open capability, where nothing is rounded
narrowed_here : (c : Capability) (len : ℕ) → (c.otype == unsealed_type) ≡ true → c.base ≤ c.addr → c.addr + len ≤ c.top →
    rounded_base c.addr len ≡ c.addr → rounded_top c.addr len ≡ c.addr + len →
    set_bounds_exact (valid c) len ≡ valid (record c { base = c.addr; top = c.addr + len })
unfolding set_bounds_exact address_of
narrowed_here c len unsealed from to base top =
    rw (unsealed, le-leb _ _ from, le-leb _ _ to, base, top, eq-eqb c.addr c.addr refl, eq-eqb (c.addr + len) (c.addr + len) refl) refl

-- a region moved to where a buffer begins, and narrowed to it
pub narrowed : (a : Allocator) (len : ℕ) → IsAllocator a.region a.next → len < 2 ^ 64 → 0 < len → length_at_zero len < 2 ^ 64 →
    end_of a len ≤ (parts_of a.region).top →
    set_bounds_exact (set_address a.region (start_of a len)) (length_at_zero len) ≡ valid (record (parts_of a.region) {
      base = start_of a len;
      top = end_of a len;
      addr = start_of a len;
    })
narrowed a len h below positive whole room =
    let c = open_parts a.region h.lawful h.open_region in
    let g = alignment (length_at_zero len) in
    let some = alignment_positive len below in
    let from = round_up_at_least g a.next some in
    let multiple = round_up_multiple g a.next some in
    let enough = length_at_zero_from len in
    let top = c.lawful.top_at_most in
    let start_below : start_of a len < 2 ^ 64 = omega arith in
    let inside = lawful_bounds_in_window (parts_of a.region) c.lawful (start_of a len) (omega (arith, h.from_base, from)) (omega (arith, room)) in
    let keeps : keeps_bounds a.region (start_of a len) ≡ true = test_of_window _ _ _ (subst (IsInWindow _ _) (mod-eq_of_lt start_below) inside) in
    rw (moved a.region (start_of a len) h.open_region keeps)
    (narrowed_here (record (parts_of a.region) { addr = start_of a len }) (length_at_zero len)
    (and_parts (tag_of a.region) _ h.open_region).1 (omega (arith, h.from_base, from)) room
    (aligned_base_exact (start_of a len) len (omega arith) multiple)
    (aligned_top_exact (start_of a len) len (omega arith) multiple))

-- what the allocator hands out, by the steps that it takes
pub handed : (a : Allocator) (len length start : ℕ) (v : CapValue) → IsAllocator a.region a.next → len < 2 ^ 64 → 0 < len →
    Some length ≡ exact_length len → start ≡ start_of a len → start + length ≤ (parts_of a.region).top →
    v ≡ set_bounds_exact (set_address a.region start) length → Some v ≡ buffer a len
unfolding buffer
handed a len length start v h below positive is at room made =
    let exact = exact_length_is len length is in
    let fitting : start_of a len + length_at_zero len ≤ (parts_of a.region).top = omega (arith, exact.0, at, room) in
    let value = narrowed a len h below positive (omega (arith, exact.0, exact.1)) fitting in
    let whole : length_at_zero len < 2 ^ 64 = omega (arith, exact.0, exact.1) in
    rw (lt-ltb _ _ whole, le-leb _ _ fitting, made, at, exact.0, value) refl

-- what is then free
pub after_is : (a : Allocator) (len length start : ℕ) → Some length ≡ exact_length len → start ≡ start_of a len →
    start + length ≤ (parts_of a.region).top → after a len ≡ record a { next = start + length }
unfolding after
after_is a len length start is at room =
    let exact = exact_length_is len length is in
    let fitting : start_of a len + length_at_zero len ≤ (parts_of a.region).top = omega (arith, exact.0, at, room) in
    let whole : length_at_zero len < 2 ^ 64 = omega (arith, exact.0, exact.1) in
    rw (lt-ltb _ _ whole, le-leb _ _ fitting, at, exact.0) refl

-- the capability of a buffer
abbrev buffer_value : Allocator → ℕ → CapValue
buffer_value a len = valid (record (parts_of a.region) { base = start_of a len; top = end_of a len; addr = start_of a len })

-- is as a caller relies on
buffer_is : (a : Allocator) (len : ℕ) → IsAllocator a.region a.next → len < 2 ^ 64 → 0 < len →
    IsBuffer a (record a { next = end_of a len }) len (buffer_value a len)
buffer_is a len h below positive = record {
  enough = omega (arith, length_at_zero_from len);
  from_free = round_up_at_least (alignment (length_at_zero len)) a.next (alignment_positive len below);
  to_free = refl;
  tagged = (and_parts (tag_of a.region) _ h.open_region).1;
  same_region = refl;
}

-- a value that is handed out is a buffer
pub handed_buffer : (a : Allocator) (len : ℕ) (v : CapValue) → IsAllocator a.region a.next → len < 2 ^ 64 → 0 < len →
    Some v ≡ buffer a len → IsBuffer a (after a len) len v
unfolding buffer after
handed_buffer a len v h below positive is = elim (cases_Bool (fits a len)) [
  | inl room ↦
      (let some : Some v ≡ Some (buffer_value a len) = rw room at is in
      let same : v ≡ buffer_value a len = cc in
      rw (room, same) (buffer_is a len h below positive))
  | inr not_fits ↦ (let none = rw not_fits at is in absurd (cc))
]

pub ruleset buffers = (alignment_of_mask, alignment_positive, alignment_at_most, length_none, length_some)

unfoldable pub buffer_words : Allocator → ℕ → Option CapValue
unfolding exact_length buffer after
buffer_words a len = buffer a len
