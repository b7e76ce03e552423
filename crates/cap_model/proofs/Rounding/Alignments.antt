-- The length rounded at base 0, and bounds of that length at a base that is a multiple of its alignment.
use Rattle.std.proofs.Common.{◌≡◌, ℕ, ◌+◌, ◌-◌, ◌%◌, ◌^◌, ◌<◌, ◌≤◌, refl, subst, ◌∙◌, bit_and, arith}
use Rattle.std.proofs.lemmas.Nat.Bits.{and_high_mask}
use Rattle.cap_model.specs.bounds.Numbers.{round_down}
use Rattle.cap_model.specs.bounds.Lengths.{alignment}
use Rattle.cap_model.specs.bounds.Rounding.{rounded_base, rounded_top}
use Rattle.cap_model.specs.bounds.Alignment.{length_at_zero, representable_length, alignment_mask}
use Rattle.cap_model.proofs.Rounding.Multiples.{multiple_sum, multiple_rest}
use Rattle.cap_model.proofs.Rounding.Roundings.{rounding_bits, rounding_alignment_power, rounding_bits_at_most, alignment_of_rounding, rounded_base_at_most, rounded_top_at_least, rounded_top_below, rounded_top_multiple}
use Rattle.cap_model.proofs.Rounding.RoundingsWithin.{rounded_base_exact, rounded_top_exact, exact_base_fits, exact_top_fits, rounded_top_inside}

pub length_at_zero_from : (len : ℕ) → len ≤ length_at_zero len
length_at_zero_from len = omega (arith, rounded_base_at_most 0 len, rounded_top_at_least 0 len)

pub length_at_zero_at_most : (len : ℕ) → len ≤ 2 ^ 64 → length_at_zero len ≤ 2 ^ 64
length_at_zero_at_most len fits = omega (arith, rounded_top_below 0 len fits (omega arith))

pub representable_length_whole : (len : ℕ) → length_at_zero len < 2 ^ 64 → representable_length len ≡ length_at_zero len
unfolding representable_length
representable_length_whole len below = omega arith

pub representable_length_none : (len : ℕ) → length_at_zero len ≡ 2 ^ 64 → representable_length len ≡ 0
unfolding representable_length
representable_length_none len whole = rw whole refl

-- the length is a multiple of its own alignment
length_at_zero_multiple : (len : ℕ) → len ≤ 2 ^ 64 → length_at_zero len % alignment (length_at_zero len) ≡ 0
length_at_zero_multiple len fits =
    let same : rounded_top 0 len ≡ length_at_zero len = omega (arith, rounded_base_at_most 0 len) in
    let IsMultiple : ℕ → Type 0 = λ n. n % alignment (length_at_zero len) ≡ 0 in
    subst IsMultiple same (rounded_top_multiple 0 len fits)

pub aligned_base_exact : (base len : ℕ) → len ≤ 2 ^ 64 → base % alignment (length_at_zero len) ≡ 0 → rounded_base base (length_at_zero len) ≡ base
aligned_base_exact base len fits aligned =
    rounded_base_exact base (length_at_zero len) (length_at_zero_at_most len fits) aligned
    (multiple_sum _ base (length_at_zero len) aligned (length_at_zero_multiple len fits))

pub aligned_top_exact : (base len : ℕ) → len ≤ 2 ^ 64 → base % alignment (length_at_zero len) ≡ 0 → rounded_top base (length_at_zero len) ≡ base + length_at_zero len
aligned_top_exact base len fits aligned =
    rounded_top_exact base (length_at_zero len) (length_at_zero_at_most len fits) aligned
    (multiple_sum _ base (length_at_zero len) aligned (length_at_zero_multiple len fits))

-- no exact length from the requested one on is shorter
pub length_at_zero_least : (base len exact : ℕ) → len ≤ exact → exact ≤ 2 ^ 64 → rounded_base base exact ≡ base → rounded_top base exact ≡ base + exact →
    length_at_zero len ≤ exact
length_at_zero_least base len exact from fits same_base same_top =
    let first = exact_base_fits base exact fits same_base same_top in
    let both = exact_top_fits base exact fits same_base same_top in
    let rest = multiple_rest (alignment exact) base exact first both in
    let same : exact - 0 ≡ exact = omega arith in
    let inside = rounded_top_inside 0 exact 0 len fits (omega arith) (rw same rest) (omega arith) (omega arith) in
    omega arith

-- the alignment of that length, as a power of 2
pub length_at_zero_alignment : (len : ℕ) → len ≤ 2 ^ 64 → alignment (length_at_zero len) ≡ 2 ^ rounding_bits 0 len
length_at_zero_alignment len fits = alignment_of_rounding 0 len fits ∙ rounding_alignment_power 0 len

-- the mask rounds down to a multiple of that alignment
pub alignment_mask_aligns : (len address : ℕ) → len ≤ 2 ^ 64 → address < 2 ^ 64 → bit_and address (alignment_mask len) ≡ round_down (alignment (length_at_zero len)) address
unfolding alignment_mask
alignment_mask_aligns len address fits below =
    rw (length_at_zero_alignment len fits)
    (and_high_mask 64 (rounding_bits 0 len) (omega (arith, rounding_bits_at_most 0 len fits)) address below)

-- how the length at base 0, and the representable length, compare with the requested one
pub ruleset length_laws = (length_at_zero_from, length_at_zero_at_most, representable_length_whole, representable_length_none)

pub ruleset aligned_laws = (aligned_base_exact, aligned_top_exact)
