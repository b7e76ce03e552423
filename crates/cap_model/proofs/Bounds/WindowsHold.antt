-- The window holds the bounds, the top itself included.
use Rattle.std.specs.Prelude.{◌≡◌, ℕ, ◌+◌, ◌-◌, ◌*◌, ◌/◌, ◌%◌, ◌^◌, ◌<◌, ◌≤◌}
use Rattle.std.proofs.Common.{arith, mod-lt}
use Rattle.std.proofs.lemmas.Nat.{pow-add, pow_pos, div-add-mod'}
use Rattle.cap_model.specs.bounds.Lengths.{exponent}
use Rattle.cap_model.specs.bounds.Window.{IsInWindow}
use Rattle.cap_model.specs.values.Capability.{Capability, IsLawful}
use Rattle.cap_model.proofs.Rounding.Exponents.{exponent_top}
use Rattle.cap_model.proofs.Bounds.BoundsBack.{powers}

-- the distance of an address in the bounds from R, where u is 2^(E+11)
inside : (u base top a : ℕ) → 0 < u → u ≤ 2 ^ 60 → base < 2 ^ 64 → base ≤ a → a ≤ top → top ≤ 2 ^ 64 → top - base < 4 * u →
    (a % 2 ^ 64 + 2 ^ 64 + u - base / u * u) % 2 ^ 64 < 8 * u
inside u base top a p q below from to most short =
    let place = div-add-mod' base u in
    let rest : base % u < u = mod-lt base p in
    omega arith

-- each address of the bounds, and the top, is in the window
pub in_bounds_in_window : (base top a : ℕ) → base < 2 ^ 64 → top ≤ 2 ^ 64 → base ≤ a → a ≤ top → IsInWindow base (top - base) (a % 2 ^ 64)
unfolding IsInWindow
in_bounds_in_window base top a below most from to = λ low.
    let e : ℕ = exponent (top - base) in
    let short = exponent_top (top - base) (omega arith) in
    let positive = pow_pos (e + 11) in
    let small = powers (e + 11) 60 (omega arith) in
    let length_size : 2 ^ (e + 13) ≡ 4 * 2 ^ (e + 11) = omega (arith, pow-add 2 e 13, pow-add 2 e 11) in
    let region : 2 ^ (e + 14) ≡ 8 * 2 ^ (e + 11) = omega (arith, pow-add 2 e 14, pow-add 2 e 11) in
    rw region (inside (2 ^ (e + 11)) base top a positive small below from to most (omega arith))

-- the same for a lawful capability's bounds
pub lawful_bounds_in_window : (c : Capability) → IsLawful c → (a : ℕ) → c.base ≤ a → a ≤ c.top → IsInWindow c.base (c.top - c.base) (a % 2 ^ 64)
lawful_bounds_in_window c h a from to = in_bounds_in_window c.base c.top a h.base_below h.top_at_most from to
