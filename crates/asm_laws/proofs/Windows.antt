-- A capability keeps its bounds up to 2,048 bytes below and above them: so the first instruction
-- of a pair, which reaches
-- no further past the place, keeps the tag.
use Rattle.std.proofs.Common.{◌≡◌, refl, ℕ, ◌+◌, ◌-◌, ◌*◌, ◌/◌, ◌%◌, ◌^◌, ◌<◌, ◌≤◌, true, mod-lt}
use Rattle.std.proofs.Common.{arith}
use Rattle.std.proofs.lemmas.Bool.{false≢true}
use Rattle.std.proofs.lemmas.Nat.{pow-add, pow_pos, div-add-mod'}
use Rattle.cap_model.specs.bounds.Lengths.{exponent}
use Rattle.cap_model.specs.bounds.Window.{IsInWindow}
use Rattle.cap_model.specs.values.Capability.{Capability, IsLawful}
use Rattle.cap_model.specs.values.CapValue.{CapValue, valid, raw, parts_of, IsLawfulValue}
use Rattle.cap_model.specs.results.Addresses.{is_open, keeps_bounds, set_address, with_address}
use Rattle.cap_model.proofs.Rounding.Exponents.{exponent_top}
use Rattle.cap_model.proofs.Bounds.BoundsBack.{powers}
use Rattle.cap_model.proofs.Results.AddressResults.{test_of_window}

-- the distance from R of an address that lies at most 2,048 above p, and less than 2,048 below; u
-- is 2^(E+11)
near_offset : (u base top p e : ℕ) → 2048 ≤ u → u ≤ 2 ^ 60 → base < 2 ^ 64 → base ≤ p → p ≤ top →
    top ≤ 2 ^ 64 → top - base < 4 * u →
    e < 4096 → ((p + 2 ^ 64 + 2048 - e) % 2 ^ 64 + 2 ^ 64 + u - base / u * u) % 2 ^ 64 < 8 * u
near_offset u base top p e least most below from to end short near =
    let place = div-add-mod' base u in
    let rest : base % u < u = mod-lt base (omega arith) in
    omega arith

near_in_window : (c : Capability) (p e : ℕ) → IsLawful c → c.base ≤ p → p ≤ c.top → e < 4096 →
    IsInWindow c.base (c.top - c.base) ((p + 2 ^ 64 + 2048 - e) % 2 ^ 64)
unfolding IsInWindow
near_in_window c p e h from to near = λ low.
    let base_below = h.base_below in
    let end = h.top_at_most in
    let x : ℕ = exponent (c.top - c.base) in
    let short = exponent_top (c.top - c.base) (omega arith) in
    let positive = pow_pos x in
    let small = powers (x + 11) 60 (omega arith) in
    let unit : 2 ^ (x + 11) ≡ 2 ^ x * 2048 = pow-add 2 x 11 in
    let length_size : 2 ^ (x + 13) ≡ 4 * 2 ^ (x + 11) =
    omega (arith, pow-add 2 x 13, pow-add 2 x 11) in
    let region : 2 ^ (x + 14) ≡ 8 * 2 ^ (x + 11) = omega (arith, pow-add 2 x 14, pow-add 2 x 11) in
    rw region (near_offset (2 ^ (x + 11)) c.base c.top p e (omega arith) small base_below from to end (omega arith) near)

-- an open capability with an address near a place of its bounds, or near their top
pub near_is : (v : CapValue) (p e : ℕ) → IsLawfulValue v → is_open v ≡ true →
    (parts_of v).base ≤ p → p ≤ (parts_of v).top → e < 4096 →
    set_address v ((p + 2 ^ 64 + 2048 - e) % 2 ^ 64) ≡ with_address v ((p + 2 ^ 64 + 2048 - e) % 2 ^ 64)
unfolding set_address with_address
near_is (raw word) p e h opened from to near = absurd (false≢true opened)
near_is (valid c) p e h opened from to near =
    let kept : keeps_bounds (valid c) ((p + 2 ^ 64 + 2048 - e) % 2 ^ 64) ≡ true =
    test_of_window c.base _ _ (near_in_window c p e h from to near) in
    rw (opened, kept) refl

-- and from there with that place
pub back_is : (v : CapValue) (p a : ℕ) → IsLawfulValue v → is_open v ≡ true →
    (parts_of v).base ≤ p → p ≤ (parts_of v).top →
    set_address (with_address v a) (p % 2 ^ 64) ≡ with_address v (p % 2 ^ 64)
unfolding set_address with_address
back_is (raw word) p a h opened from to = absurd (false≢true opened)
back_is (valid c) p a h opened from to =
    let same : (p + 2 ^ 64 + 2048 - 2048) % 2 ^ 64 ≡ p % 2 ^ 64 = omega arith in
    let near = rw same at (near_in_window c p 2048 h from to (omega arith)) in
    let kept : keeps_bounds (valid c) (p % 2 ^ 64) ≡ true = test_of_window c.base _ _ near in
    rw (opened, kept) refl
