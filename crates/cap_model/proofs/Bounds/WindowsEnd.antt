-- Outside the window the raw base of a lawful capability's upper half is another one.
use Rattle.std.specs.Prelude.{◌≡◌, ℕ, ◌+◌, ◌-◌, ◌*◌, ◌/◌, ◌^◌, ◌<◌, ◌≤◌, ◌↔◌}
use Rattle.std.proofs.Common.{arith, inl, inr, sym, ap, ◌∙◌, mul-le-mul_right}
use Rattle.std.proofs.Math.Nat.{add-mul-div_right}
use Rattle.std.proofs.lemmas.Nat.{pow_pos, div-add-mod', le-div}
use Rattle.std.proofs.lemmas.Bool.{cases_lt}
use Rattle.cap_model.specs.bounds.Lengths.{exponent, internal_exponent}
use Rattle.cap_model.specs.bounds.Window.{IsInWindow}
use Rattle.cap_model.specs.words.RawBounds.{raw_base, raw_top}
use Rattle.cap_model.specs.values.Capability.{Capability, IsLawful, upper_of}
use Rattle.cap_model.proofs.Bounds.RegionPlaces.{start_of, place_of, above_floor, start_whole, bound_from}
use Rattle.cap_model.proofs.Bounds.BoundsDigits.{HasDigits, has_digits}
use Rattle.cap_model.proofs.Bounds.BoundsBack.{SaysBounds, raw_base_is, regions, powers}
use Rattle.cap_model.proofs.Bounds.RegionPlaces.{window_from_place}
use Rattle.cap_model.proofs.Words.WordsBack.{upper_says_bounds, raw_base_of_upper, raw_top_of_upper}

-- the start is R, the whole regions of the address's place, and a multiple of 2^64
start_anywhere : (v b a m : ℕ) → 0 < v → v ≤ 2 ^ 52 → b * v < 2 ^ 64 → m * (2 ^ 14 * v) ≡ 2 ^ 64 →
    start_of v b a + 2 ^ 11 * v
    ≡ b / 2 ^ 11 * (2 ^ 11 * v) + (place_of v b a / (2 ^ 14 * v) * (2 ^ 14 * v) + above_floor v b a / 2 ^ 64 * 2 ^ 64) * 1
start_anywhere v b a m p q h whole =
    let low : b / 2 ^ 11 * 2 ^ 11 * v ≤ b * v = mul-le-mul_right v (omega arith) in
    let size_above : 0 < 2 ^ 14 * v = omega arith in
    let n : ℕ = above_floor v b a / 2 ^ 64 in
    let scaled = ap (λ (z : ℕ). n * z) whole in
    let place : above_floor v b a ≡ place_of v b a + n * m * (2 ^ 14 * v) = omega arith in
    let all : above_floor v b a / (2 ^ 14 * v) ≡ place_of v b a / (2 ^ 14 * v) + n * m =
    ap (λ (z : ℕ). z / (2 ^ 14 * v)) place ∙ add-mul-div_right (place_of v b a) (n * m) size_above in
    let all_scaled = ap (λ (z : ℕ). z * (2 ^ 14 * v)) all in
    omega (arith, start_whole v b a p q h)

-- a place from the window's end on has a whole region, and fewer than go round
whole_region : (s place : ℕ) → 0 < s → s ≤ place → s ≤ place / s * s
whole_region s place p h =
    let some : 1 ≤ place / s = le-div 1 place s p (omega arith) in
    omega (arith, mul-le-mul_right {m = 1} {n = place / s} s some)

-- the raw base at an address outside the window is another one
outside_differs : (upper ie e base top a : ℕ) → HasDigits ie e base top → SaysBounds upper e base top → e < 50 →
    2 ^ 14 * 2 ^ e ≤ place_of (2 ^ e) (base / 2 ^ e) a → raw_base upper a ≡ base → ⊥
outside_differs upper ie e base top a digits says low outside same =
    let whole = digits.base_whole in
    let below = digits.base_below in
    let positive = pow_pos e in
    let most = powers e 52 (omega arith) in
    let start = start_anywhere (2 ^ e) (base / 2 ^ e) a (2 ^ (50 - e)) positive most (omega arith) (regions e (omega arith)) in
    let bound = bound_from (2 ^ e) (base / 2 ^ e) 0 (start_of (2 ^ e) (base / 2 ^ e) a) _ 1 start in
    let more = whole_region (2 ^ 14 * 2 ^ e) (place_of (2 ^ e) (base / 2 ^ e) a) (omega arith) outside in
    let fewer = div-add-mod' (place_of (2 ^ e) (base / 2 ^ e) a) (2 ^ 14 * 2 ^ e) in
    let raw = rw bound at (raw_base_is upper e base top a says) in
    omega arith

-- where the raw base is the base the address is in the window
pub in_window_from_base : (c : Capability) → IsLawful c → (a : ℕ) → raw_base (upper_of c) a ≡ c.base → IsInWindow c.base (c.top - c.base) a
in_window_from_base c h a same =
    let e : ℕ = exponent (c.top - c.base) in
    window_from_place c.base (c.top - c.base) a
    (λ low. elim (cases_lt (place_of (2 ^ e) (c.base / 2 ^ e) a) (2 ^ 14 * 2 ^ e)) [
      | inl inside ↦ inside
      | inr outside ↦
          absurd (outside_differs (upper_of c) (internal_exponent (c.top - c.base)) e c.base c.top a (has_digits c h) (upper_says_bounds c h) low outside same)
    ])

-- the raw bounds at an address are those at the capability's own just where the address is in the window
pub same_bounds_in_window : (c : Capability) → IsLawful c → (a : ℕ) →
    ((raw_base (upper_of c) a ≡ raw_base (upper_of c) c.addr) × (raw_top (upper_of c) a ≡ raw_top (upper_of c) c.addr)) ↔ IsInWindow c.base (c.top - c.base) a
same_bounds_in_window c h a =
    let base_is = raw_base_of_upper c h c.addr h.in_window in
    let top_is = raw_top_of_upper c h c.addr h.in_window in (
      λ same. in_window_from_base c h a (same.0 ∙ base_is),
      λ inside. (raw_base_of_upper c h a inside ∙ sym base_is, raw_top_of_upper c h a inside ∙ sym top_is),
    )

-- the base alone tells it
pub same_base_in_window : (c : Capability) → IsLawful c → (a : ℕ) → (raw_base (upper_of c) a ≡ c.base) ↔ IsInWindow c.base (c.top - c.base) a
same_base_in_window c h a = (in_window_from_base c h a, raw_base_of_upper c h a)
