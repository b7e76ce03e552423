-- How great the numbers of rows are.
use Rattle.std.proofs.Common.{ℕ, ◌+◌, ◌-◌, ◌^◌, ◌<◌, ◌≤◌, arith, lit<}
use Rattle.std.proofs.Math.Nat.{div-mul-le_self, pow-le-pow_right}
use Rattle.cap_model.specs.bounds.Rounding.{rounded_top}
use Rattle.cap_model.proofs.Rounding.Roundings.{rounding_bits, rounding_bits_at_most, rounded_top_is}

-- a rounded top has at most 66 bits
pub rounded_top_lt : (base len : ℕ) → base < 2 ^ 64 → len < 2 ^ 64 → rounded_top base len < 2 ^ 68
rounded_top_lt base len low short =
    let bits = rounding_bits_at_most base len (omega arith) in
    let granule : 2 ^ rounding_bits base len ≤ 2 ^ 55 = pow-le-pow_right {n = 2} (lit< tt) bits in
    let whole = div-mul-le_self (base + len + (2 ^ rounding_bits base len - 1)) (2 ^ rounding_bits base len) in
    rw (rounded_top_is base len) (omega arith)

pub power_at_most : (e : ℕ) → e ≤ 66 → 2 ^ e ≤ 2 ^ 66
power_at_most e most = pow-le-pow_right {n = 2} (lit< tt) most
