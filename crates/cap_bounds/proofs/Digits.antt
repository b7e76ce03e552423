-- A length's exponent, from the zeros above its digits from bit 13 on.
use Rattle.std.proofs.Common.{◌≡◌, ℕ, ◌-◌, ◌/◌, ◌^◌, ◌≤◌, sym, ◌∙◌, arith}
use Rattle.std.proofs.lemmas.Nat.{leading_length}
use lib.Count.{count_leading_zeros}
use Rattle.cap_model.specs.bounds.Lengths.{exponent}
use Rattle.cap_model.proofs.Rounding.Exponents.{exponent_digits, exponent_at_most}

pub exponent_from_zeros : (len : ℕ) → len ≤ 2 ^ 64 → 64 - count_leading_zeros 64 (len / 2 ^ 13) ≡ exponent len
exponent_from_zeros len fits =
    let digits = leading_length 64 (len / 2 ^ 13) (omega arith) in
    let count : 64 - count_leading_zeros 64 (len / 2 ^ 13) ≡ digits.0 = omega (arith, digits.1) in
    count ∙ sym (exponent_digits len digits.0 fits digits.2 digits.3)

-- the exponent by the zeros above its digits, and its limit
pub ruleset exponent_by_zeros = (exponent_from_zeros, exponent_at_most)
