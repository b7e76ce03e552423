-- The rounding at base 0, which CRRL and CRAM show.
use Rattle.std.proofs.Common.{◌≡◌, ℕ, ◌+◌, ◌-◌, ◌^◌, ◌≤◌, ◌≢◌, ◌*◌, ◌%◌, refl, inl, inr, ◌∙◌, arith}
use Rattle.std.proofs.lemmas.Bool.{cases_lt}
use Rattle.std.proofs.lemmas.Nat.Bits.{ones_shl}
use Rattle.cap_model.specs.bounds.Lengths.{internal_exponent}
use Rattle.cap_model.specs.bounds.Rounding.{rounding_exponent, rounded_top}
use Rattle.cap_model.specs.bounds.Alignment.{length_at_zero, alignment_mask}
use Rattle.cap_model.proofs.Rounding.Exponents.{internal_exponent_small, internal_exponent_long}
use Rattle.cap_model.proofs.Rounding.Roundings.{rounding_holds, rounding_exponent_at_most, alignment_of_rounding, rounding_alignment_small, rounding_alignment_long, rounded_base_at_most}

pub length_is_top : (len : ℕ) → rounded_top 0 len ≡ length_at_zero len
length_is_top len = omega (arith, rounded_base_at_most 0 len)

pub mask_short : (len : ℕ) → len ≤ 2 ^ 64 → internal_exponent len ≡ 0 → 2 ^ 64 - 1 ≡ alignment_mask len
unfolding alignment_mask
mask_short len fits short =
    elim (cases_lt len (2 ^ 12)) [
      | inl small ↦ rw (alignment_of_rounding 0 len fits, rounding_alignment_small 0 len small) refl
      | inr long ↦ absurd (omega (arith, internal_exponent_long len long))
    ]

pub mask_long : (len e : ℕ) → len ≤ 2 ^ 64 → internal_exponent len ≢ 0 → e ≡ rounding_exponent 0 len → (2 ^ 64 - 1) * 2 ^ (e + 3) % 2 ^ 64 ≡ alignment_mask len
unfolding alignment_mask
mask_long len e fits not_short same_e =
    elim (cases_lt len (2 ^ 12)) [
      | inl small ↦ absurd (not_short (internal_exponent_small len small))
      | inr long ↦
          ones_shl 64 (e + 3) (omega (arith, rounding_exponent_at_most 0 len fits)) ∙
          rw (alignment_of_rounding 0 len fits, rounding_alignment_long 0 len long, ← same_e) refl
    ]

-- the length, and the alignment masks of short and of long ranges
pub ruleset at_zero = (length_is_top, rounding_holds, mask_short, mask_long)
