-- The fields B and T of a rounding have 14 and 12 bits: with IE 1 the digits of the bounds have three zeros, in
-- which the exponent is.
use Rattle.std.proofs.Common.{◌≡◌, ℕ, ◌+◌, ◌-◌, ◌*◌, ◌/◌, ◌^◌, ◌<◌, ◌≤◌, refl, inl, inr, ◌∙◌, arith}
use Rattle.std.proofs.lemmas.Bool.{cases_lt}
use Rattle.std.proofs.lemmas.Nat.{pow_pos, pow-add}
use Rattle.std.proofs.Math.Nat.{mul-div_cancel}
use Rattle.cap_model.specs.bounds.Lengths.{internal_exponent}
use Rattle.cap_model.specs.bounds.Rounding.{rounding_exponent, rounded_base, rounded_top}
use Rattle.cap_model.specs.values.Capability.{b_field, t_field}
use Rattle.cap_model.proofs.Rounding.Exponents.{internal_exponent_small, internal_exponent_long}
use Rattle.cap_model.proofs.Rounding.Roundings.{rounding_exponent_at_most, rounding_bits_long, rounded_base_is, rounded_top_is}

-- a multiple of 2^(e+3) has three zeros from bit e on
digits_of_multiple : (quotient bound e : ℕ) → bound ≡ quotient * 2 ^ (e + 3) → bound / 2 ^ e ≡ quotient * 8
digits_of_multiple quotient bound e is =
    let product : bound ≡ quotient * 8 * 2 ^ e = is ∙ rw (pow-add 2 e 3) (omega arith) in
    rw product (mul-div_cancel (quotient * 8) (pow_pos e))

pub b_field_below : (base len : ℕ) → len ≤ 2 ^ 64 → b_field (internal_exponent len) (rounding_exponent base len) (rounded_base base len) < 2 ^ 14
unfolding b_field
b_field_below base len fits =
    let e = rounding_exponent base len in
    elim (cases_lt len (2 ^ 12)) [
      | inl small ↦ rw (internal_exponent_small len small) (omega arith)
      | inr long ↦ (
          let is : rounded_base base len ≡ base / 2 ^ (e + 3) * 2 ^ (e + 3) = rounded_base_is base len ∙ rw (rounding_bits_long base len long) refl in
          rw (internal_exponent_long len long) (omega (arith, digits_of_multiple _ _ e is)))
    ]

pub t_field_below : (base len : ℕ) → len ≤ 2 ^ 64 → t_field (internal_exponent len) (rounding_exponent base len) (rounded_top base len) < 2 ^ 12
unfolding t_field
t_field_below base len fits =
    let e = rounding_exponent base len in
    elim (cases_lt len (2 ^ 12)) [
      | inl small ↦ rw (internal_exponent_small len small) (omega arith)
      | inr long ↦ (
          let is : rounded_top base len ≡ (base + len + (2 ^ (e + 3) - 1)) / 2 ^ (e + 3) * 2 ^ (e + 3) = rounded_top_is base len ∙ rw (rounding_bits_long base len long) refl in
          rw (internal_exponent_long len long) (omega (arith, digits_of_multiple _ _ e is, rounding_exponent_at_most base len fits)))
    ]

pub ruleset field_widths = (b_field_below, t_field_below)
