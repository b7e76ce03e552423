-- Numbers of the representable region, and of permissions.
use Rattle.std.proofs.Common.{ℕ, ◌+◌, ◌*◌, ◌/◌, ◌^◌, ◌≤◌, bit_and, arith}
use Rattle.std.proofs.Math.Nat.{one-le-pow, pow-le-pow_right, div-mul-le_self}
use Rattle.std.proofs.lemmas.Nat.{and_le_l}
use Rattle.cap_bounds.proofs.Digits.{exponent_by_zeros}

-- the steps in which a region begins are at least 1 and at most half of the address space
pub step_positive : (e : ℕ) → 1 ≤ 2 ^ (e + 11)
step_positive e = one-le-pow (e + 11) 2 (omega arith)

pub step_at_most : (e : ℕ) → e ≤ 52 → 2 ^ (e + 11) ≤ 2 ^ 63
step_at_most e small =
    let near : e + 11 ≤ 63 = omega arith in pow-le-pow_right (omega arith) near

pub rounded_at_most : (base step : ℕ) → base / step * step ≤ base
rounded_at_most base step = div-mul-le_self base step

pub ruleset steps = (step_positive, step_at_most, rounded_at_most)

-- the permissions of two values are among those of the first
pub and_at_most : (a b : ℕ) → bit_and a b ≤ a
and_at_most a b = and_le_l a b

pub ruleset numbers = (exponent_by_zeros, steps, and_at_most)
