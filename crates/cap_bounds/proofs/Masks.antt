-- Rounding down by a mask.
use Rattle.std.proofs.Common.{◌≡◌, ℕ, ◌-◌, ◌^◌, ◌<◌, ◌≤◌, bit_and, arith}
use Rattle.std.proofs.lemmas.Nat.{pow_pos}
use Rattle.std.proofs.lemmas.Nat.Bits.{and_high_mask}
use Rattle.cap_model.specs.bounds.Numbers.{round_down}

-- at w bits `n & !(2^k - 1)` is the greatest multiple of 2^k that is at most n
pub masked_down : (w k mask n : ℕ) → k ≤ w → n < 2 ^ w → mask ≡ 2 ^ k - 1 → bit_and n (2 ^ w - 1 - mask) ≡ round_down (2 ^ k) n
masked_down w k mask n within below is =
    let high : 2 ^ w - 1 - mask ≡ 2 ^ w - 2 ^ k = omega (arith, pow_pos k) in
    rw high (and_high_mask w k within n below)
