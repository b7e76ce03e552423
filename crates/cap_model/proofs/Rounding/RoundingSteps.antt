-- The exponent of a rounding is that of the requested length, or one more where the widened range is too long
-- for it.
use Rattle.std.proofs.Common.{◌≡◌, ℕ, ◌+◌, ◌*◌, ◌^◌, ◌<◌, ◌≤◌, inl, inr, ◌∙◌, arith}
use Rattle.std.proofs.lemmas.Bool.{cases_lt}
use Rattle.std.proofs.lemmas.Nat.{pow_pos, pow-add}
use Rattle.cap_model.specs.bounds.Lengths.{exponent}
use Rattle.cap_model.specs.bounds.Rounding.{rounding_exponent}
use Rattle.cap_model.proofs.Rounding.Exponents.{least_fit_is, exponent_top, exponent_at_most, no_exponent_before}
use Rattle.cap_model.proofs.Rounding.Roundings.{widened_length, widened_length_above, widened_length_near, rounding_exponent_long}

-- it is the length's where the range that is rounded at it is shorter than 2^(e+13)
pub rounding_exponent_same : (base len : ℕ) → 2 ^ 12 ≤ len → len ≤ 2 ^ 64 → widened_length base len (exponent len) < 2 ^ (exponent len + 13) → rounding_exponent base len ≡ exponent len
rounding_exponent_same base len long within fits =
    rounding_exponent_long base len long ∙
    least_fit_is (widened_length base len) (exponent len) (omega (arith, exponent_at_most len within)) fits
    (λ m before. omega (arith, no_exponent_before len m before, widened_length_above base len m))

room_at_next : (e : ℕ) → 2 ^ (e + 13) + 2 * 2 ^ (e + 1 + 3) ≤ 2 ^ (e + 1 + 13)
room_at_next e = omega (arith, pow_pos e, pow-add 2 e 13, pow-add 2 e 1, pow-add 2 (e + 1) 3, pow-add 2 (e + 1) 13)

-- else it is one more
pub rounding_exponent_next : (base len : ℕ) → 2 ^ 12 ≤ len → len ≤ 2 ^ 64 → 2 ^ (exponent len + 13) ≤ widened_length base len (exponent len) → rounding_exponent base len ≡ exponent len + 1
rounding_exponent_next base len long within too_long =
    let e = exponent len in
    let next_fits : widened_length base len (e + 1) < 2 ^ (e + 1 + 13) =
    omega (arith, widened_length_near base len (e + 1), exponent_top len within, room_at_next e) in
    rounding_exponent_long base len long ∙
    least_fit_is (widened_length base len) (e + 1) (omega (arith, exponent_at_most len within)) next_fits
    (λ m before. elim (cases_lt m e) [
      | inl earlier ↦ omega (arith, no_exponent_before len m earlier, widened_length_above base len m)
      | inr not_earlier ↦ (let same : m ≡ e = omega arith in rw same too_long)
    ])

-- the exponent of a rounding: the length's own, or one more
pub ruleset rounding_steps = (rounding_exponent_same, rounding_exponent_next)
