-- The digits of lawful bounds from the exponent on: they say all of the bounds, and the length's leading bit is IE.
use Rattle.std.specs.Prelude.{◌≡◌, ℕ, ◌+◌, ◌-◌, ◌*◌, ◌/◌, ◌%◌, ◌^◌, ◌<◌, ◌≤◌}
use Rattle.std.proofs.Common.{arith, inl, inr, ap, ◌∙◌, le_of_mul-le-mul_right, lt_of_mul-lt-mul_right}
use Rattle.std.proofs.lemmas.Nat.{pow_pos, pow-add, div-add-mod', div-mul-add}
use Rattle.std.proofs.lemmas.Bool.{cases_lt, lt-ltb, le-ltb}
use Rattle.cap_model.specs.bounds.Lengths.{exponent, internal_exponent, alignment}
use Rattle.cap_model.specs.values.Capability.{Capability, IsLawful}
use Rattle.cap_model.proofs.Rounding.Exponents.{exponent_small, exponent_top, exponent_at_most}
use Rattle.cap_model.proofs.Rounding.Exponents.{exponent_bottom_from_12}

-- Bounds that the fields of a word have room for: with IE 0 the exponent is 0 and the length below 2^12; with IE 1
-- the digits are multiples of 8, and the length has 13 digits.
pub record HasDigits (ie e base top : ℕ) : Type 0 where
  pub internal : ie < 2
  pub exponent_at_most : e ≤ 52
  pub external : ie ≡ 0 → e ≡ 0
  pub base_whole : base / 2 ^ e * 2 ^ e ≡ base
  pub top_whole : top / 2 ^ e * 2 ^ e ≡ top
  pub base_eighths : ie ≡ 1 → base / 2 ^ e % 8 ≡ 0
  pub top_eighths : ie ≡ 1 → top / 2 ^ e % 8 ≡ 0
  pub longer : base / 2 ^ e + ie * 2 ^ 12 ≤ top / 2 ^ e
  pub shorter : top / 2 ^ e < base / 2 ^ e + ie * 2 ^ 12 + 2 ^ 12
  pub base_below : base < 2 ^ 64
  pub top_at_most : top ≤ 2 ^ 64

-- the digits of a multiple of 8 * v
eighths : (v n : ℕ) → 0 < v → n % (v * 8) ≡ 0 → n / v ≡ n / (v * 8) * 8
eighths v n p h =
    let place : n ≡ n / (v * 8) * 8 * v + 0 = omega (arith, div-add-mod' n (v * 8)) in
    ap (λ (z : ℕ). z / v) place ∙ div-mul-add (n / (v * 8) * 8) v 0 p

-- the digits of a multiple of 8 * v are all of it
whole : (v n : ℕ) → 0 < v → n % (v * 8) ≡ 0 → n / v * v ≡ n
whole v n p h =
    let scaled = ap (λ (z : ℕ). z * v) (eighths v n p h) in
    omega (arith, div-add-mod' n (v * 8))

-- digits are in the order of their numbers
order_least : (v b t l : ℕ) → 0 < v → b * v + l * v ≤ t * v → b + l ≤ t
order_least v b t l p h = let sum : (b + l) * v ≤ t * v = omega arith in le_of_mul-le-mul_right sum p

order_most : (v b t l : ℕ) → t * v < b * v + l * v → t < b + l
order_most v b t l h = let sum : t * v < (b + l) * v = omega arith in lt_of_mul-lt-mul_right v sum

-- bounds of a length below 2^12
digits_short : (base top : ℕ) → base < 2 ^ 64 → base ≤ top → top ≤ 2 ^ 64 → top - base < 2 ^ 12 → HasDigits 0 0 base top
digits_short base top p q r h = omega arith

-- bounds of a length from 2^12 on
digits_long : (e base top : ℕ) → e ≤ 52 → base < 2 ^ 64 → base ≤ top → top ≤ 2 ^ 64 → base % 2 ^ (e + 3) ≡ 0 → top % 2 ^ (e + 3) ≡ 0 →
    2 ^ (e + 12) ≤ top - base → top - base < 2 ^ (e + 13) → HasDigits 1 e base top
digits_long e base top k p q r b t long short =
    let positive = pow_pos e in
    let least = pow-add 2 e 12 in
    let most = pow-add 2 e 13 in
    let base_multiple : base % (2 ^ e * 8) ≡ 0 = rw (pow-add 2 e 3) at b in
    let top_multiple : top % (2 ^ e * 8) ≡ 0 = rw (pow-add 2 e 3) at t in
    let base_all = whole (2 ^ e) base positive base_multiple in
    let top_all = whole (2 ^ e) top positive top_multiple in
    let base_eight = eighths (2 ^ e) base positive base_multiple in
    let top_eight = eighths (2 ^ e) top positive top_multiple in
    record {
      internal = omega arith;
      exponent_at_most = k;
      external = λ h. absurd (omega arith);
      base_whole = base_all;
      top_whole = top_all;
      base_eighths = λ h. omega arith;
      top_eighths = λ h. omega arith;
      longer = order_least (2 ^ e) (base / 2 ^ e) (top / 2 ^ e) (2 ^ 12) positive (omega arith);
      shorter = omega (arith, order_most (2 ^ e) (base / 2 ^ e) (top / 2 ^ e) (2 ^ 13) (omega arith));
      base_below = p;
      top_at_most = r;
    }

-- lawful bounds have digits, at the exponent and the IE of their length
pub has_digits : (c : Capability) → IsLawful c → HasDigits (internal_exponent (c.top - c.base)) (exponent (c.top - c.base)) c.base c.top
unfolding internal_exponent alignment
has_digits c h = elim (cases_lt (c.top - c.base) (2 ^ 12)) [
  | inl short ↦
      rw (lt-ltb (c.top - c.base) (2 ^ 12) short, exponent_small (c.top - c.base) (omega arith))
      (digits_short c.base c.top h.base_below h.ordered h.top_at_most short)
  | inr long ↦
      let alignment_is = le-ltb (c.top - c.base) (2 ^ 12) long in
      let base_multiple = rw alignment_is at h.base_fits in
      let top_multiple = rw alignment_is at h.top_fits in
      rw alignment_is
      (digits_long (exponent (c.top - c.base)) c.base c.top (exponent_at_most (c.top - c.base) (omega arith))
      h.base_below h.ordered h.top_at_most base_multiple top_multiple
      (exponent_bottom_from_12 (c.top - c.base) long) (exponent_top (c.top - c.base) (omega arith)))
]
