-- Roundings inside bounds: a range inside bounds that a capability can have is rounded inside them, such bounds
-- are rounded to themselves, and the requested base is in the window of the rounding.
use Rattle.std.proofs.Common.{◌≡◌, ℕ, ◌+◌, ◌-◌, ◌*◌, ◌%◌, ◌^◌, ◌<◌, ◌≤◌, inl, inr, lit<, le_antisymm, arith}
use Rattle.std.proofs.lemmas.Bool.{cases_lt}
use Rattle.std.proofs.lemmas.Nat.{pow_pos, pow-add}
use Rattle.std.proofs.Math.Nat.{pow-le-pow_right}
use Rattle.cap_model.specs.bounds.Numbers.{round_down, round_up}
use Rattle.cap_model.specs.bounds.Lengths.{exponent, alignment}
use Rattle.cap_model.specs.bounds.Window.{IsInWindow, window_offset}
use Rattle.cap_model.specs.bounds.Rounding.{rounding_exponent, rounded_base, rounded_top}
use Rattle.cap_model.proofs.Rounding.Exponents.{least_fit_least, exponent_top, alignment_bits, alignment_bits_long, alignment_power, alignment_long}
use Rattle.cap_model.proofs.Rounding.Multiples.{round_down_at_most, round_down_near, round_down_greatest, round_up_least, multiple_of_lower_power}
use Rattle.cap_model.proofs.Rounding.Roundings.{rounded_bounds_laws, widened_length, rounding_exponent_long, rounding_bits, rounding_bits_small, rounding_bits_long, rounded_length, rounded_base_is, rounded_top_is, rounded_base_at_most, rounded_top_at_least, exponent_of_rounding, rounded_base_multiple, rounded_top_multiple}

-- bounds that are multiples of the alignment of their length
pub record IsAligned (base top : ℕ) : Type 0 where
  pub length_at_most : top - base ≤ 2 ^ 64
  pub base_fits : base % alignment (top - base) ≡ 0
  pub top_fits : top % alignment (top - base) ≡ 0

exponent_within : (base0 top0 base len : ℕ) → IsAligned base0 top0 → 2 ^ 12 ≤ len → base0 ≤ base → base + len ≤ top0 → rounding_exponent base len ≤ exponent (top0 - base0)
exponent_within base0 top0 base len aligned long from to =
    let e = exponent (top0 - base0) in
    let power : alignment (top0 - base0) ≡ 2 ^ (e + 3) = alignment_long (top0 - base0) (omega arith) in
    let base_multiple : base0 % 2 ^ (e + 3) ≡ 0 = rw (← power) aligned.base_fits in
    let top_multiple : top0 % 2 ^ (e + 3) ≡ 0 = rw (← power) aligned.top_fits in
    let low : base0 ≤ round_down (2 ^ (e + 3)) base = round_down_greatest _ base0 base (pow_pos (e + 3)) base_multiple from in
    let high : round_up (2 ^ (e + 3)) (base + len) ≤ top0 = round_up_least _ top0 (base + len) (pow_pos (e + 3)) top_multiple to in
    rw (rounding_exponent_long base len long)
    (least_fit_least (widened_length base len) e (omega (arith, exponent_top (top0 - base0) aligned.length_at_most)))

bits_within : (base0 top0 base len : ℕ) → IsAligned base0 top0 → base0 ≤ base → base + len ≤ top0 → rounding_bits base len ≤ alignment_bits (top0 - base0)
bits_within base0 top0 base len aligned from to =
    elim (cases_lt len (2 ^ 12)) [
      | inl small ↦ omega (arith, rounding_bits_small base len small)
      | inr long ↦ omega (arith, rounding_bits_long base len long, alignment_bits_long (top0 - base0) (omega arith), exponent_within base0 top0 base len aligned long from to)
    ]

-- a range inside aligned bounds is rounded inside them
pub rounded_base_within : (base0 top0 base len : ℕ) → IsAligned base0 top0 → base0 ≤ base → base + len ≤ top0 → base0 ≤ rounded_base base len
rounded_base_within base0 top0 base len aligned from to =
    let bits = rounding_bits base len in
    let power : base0 % 2 ^ alignment_bits (top0 - base0) ≡ 0 = rw (← alignment_power (top0 - base0)) aligned.base_fits in
    rw (rounded_base_is base len)
    (round_down_greatest (2 ^ bits) base0 base (pow_pos bits)
    (multiple_of_lower_power bits _ base0 (bits_within base0 top0 base len aligned from to) power) from)

pub rounded_top_within : (base0 top0 base len : ℕ) → IsAligned base0 top0 → base0 ≤ base → base + len ≤ top0 → rounded_top base len ≤ top0
rounded_top_within base0 top0 base len aligned from to =
    let bits = rounding_bits base len in
    let power : top0 % 2 ^ alignment_bits (top0 - base0) ≡ 0 = rw (← alignment_power (top0 - base0)) aligned.top_fits in
    rw (rounded_top_is base len)
    (round_up_least (2 ^ bits) top0 (base + len) (pow_pos bits)
    (multiple_of_lower_power bits _ top0 (bits_within base0 top0 base len aligned from to) power) to)

pub rounded_base_inside : (base0 top0 base len : ℕ) → top0 ≤ 2 ^ 64 → base0 % alignment (top0 - base0) ≡ 0 → top0 % alignment (top0 - base0) ≡ 0 → base0 ≤ base → base + len ≤ top0 → base0 ≤ rounded_base base len
rounded_base_inside base0 top0 base len at_most base_fits top_fits from to =
    rounded_base_within base0 top0 base len (record { length_at_most = omega arith; base_fits = base_fits; top_fits = top_fits }) from to

pub rounded_top_inside : (base0 top0 base len : ℕ) → top0 ≤ 2 ^ 64 → base0 % alignment (top0 - base0) ≡ 0 → top0 % alignment (top0 - base0) ≡ 0 → base0 ≤ base → base + len ≤ top0 → rounded_top base len ≤ top0
rounded_top_inside base0 top0 base len at_most base_fits top_fits from to =
    rounded_top_within base0 top0 base len (record { length_at_most = omega arith; base_fits = base_fits; top_fits = top_fits }) from to

-- aligned bounds are rounded to themselves
aligned_from : (base len : ℕ) → len ≤ 2 ^ 64 → base % alignment len ≡ 0 → (base + len) % alignment len ≡ 0 → IsAligned base (base + len)
aligned_from base len fits base_fits top_fits =
    let same : base + len - base ≡ len = omega arith in
    record { length_at_most = rw same fits; base_fits = rw same base_fits; top_fits = rw same top_fits }

pub rounded_base_exact : (base len : ℕ) → len ≤ 2 ^ 64 → base % alignment len ≡ 0 → (base + len) % alignment len ≡ 0 → rounded_base base len ≡ base
rounded_base_exact base len fits base_fits top_fits =
    le_antisymm (rounded_base_at_most base len)
    (rounded_base_within base (base + len) base len (aligned_from base len fits base_fits top_fits) (omega arith) (omega arith))

pub rounded_top_exact : (base len : ℕ) → len ≤ 2 ^ 64 → base % alignment len ≡ 0 → (base + len) % alignment len ≡ 0 → rounded_top base len ≡ base + len
rounded_top_exact base len fits base_fits top_fits =
    le_antisymm
    (rounded_top_within base (base + len) base len (aligned_from base len fits base_fits top_fits) (omega arith) (omega arith))
    (rounded_top_at_least base len)

-- bounds that are rounded to themselves are aligned
pub exact_base_fits : (base len : ℕ) → len ≤ 2 ^ 64 → rounded_base base len ≡ base → rounded_top base len ≡ base + len → base % alignment len ≡ 0
exact_base_fits base len fits same_base same_top =
    let same : rounded_length base len ≡ len = omega arith in
    let multiple = rounded_base_multiple base len fits in
    rw (same, same_base) at multiple

pub exact_top_fits : (base len : ℕ) → len ≤ 2 ^ 64 → rounded_base base len ≡ base → rounded_top base len ≡ base + len → (base + len) % alignment len ≡ 0
exact_top_fits base len fits same_base same_top =
    let same : rounded_length base len ≡ len = omega arith in
    let multiple = rounded_top_multiple base len fits in
    rw (same, same_top) at multiple

-- An address that is less than one step of 2^(e+11) above the base is in the window of exponent e.
window_offset_near : (e base a : ℕ) → e < 50 → base ≤ a → a < base + 2 ^ (e + 11) → window_offset e base a < 2 ^ (e + 14)
window_offset_near e base a small from near =
    let top : 2 ^ (e + 11) ≤ 2 ^ 60 = pow-le-pow_right {n = 2} (lit< tt) {j = 60} (omega arith) in
    let size : 2 ^ (e + 14) ≡ 8 * 2 ^ (e + 11) = omega (arith, pow-add 2 e 11, pow-add 2 e 14) in
    omega (arith, round_down_at_most (2 ^ (e + 11)) base (pow_pos (e + 11)), round_down_near (2 ^ (e + 11)) base (pow_pos (e + 11)))

rounding_bits_near : (base len : ℕ) → 2 ^ rounding_bits base len ≤ 2 ^ (rounding_exponent base len + 11)
rounding_bits_near base len =
    elim (cases_lt len (2 ^ 12)) [
      | inl small ↦ pow-le-pow_right {n = 2} (lit< tt) (omega (arith, rounding_bits_small base len small))
      | inr long ↦ pow-le-pow_right {n = 2} (lit< tt) (omega (arith, rounding_bits_long base len long))
    ]

-- the requested base is in the window of the rounding
pub requested_base_in_window : (base len : ℕ) → len ≤ 2 ^ 64 → IsInWindow (rounded_base base len) (rounded_length base len) base
unfolding IsInWindow
requested_base_in_window base len fits =
    let bits = rounding_bits base len in
    rw (exponent_of_rounding base len fits)
    (λ small. window_offset_near (rounding_exponent base len) (rounded_base base len) base small (rounded_base_at_most base len)
    (omega (arith, rounded_base_is base len, round_down_near (2 ^ bits) base (pow_pos bits), rounding_bits_near base len)))

-- which ranges are rounded to themselves
pub ruleset exact_laws = (rounded_base_exact, rounded_top_exact, exact_base_fits, exact_top_fits)

-- roundings are bounds, with the requested base in their window, and stay inside bounds
pub ruleset lawful_rounding = (rounded_bounds_laws, requested_base_in_window)

pub ruleset rounded_inside = (rounded_base_inside, rounded_top_inside)
