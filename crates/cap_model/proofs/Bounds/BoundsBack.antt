-- The raw bounds of a word whose fields say lawful bounds, at an address in the window, are these bounds.
use Rattle.std.specs.Prelude.{◌≡◌, ℕ, ◌+◌, ◌-◌, ◌*◌, ◌/◌, ◌%◌, ◌^◌, ◌<◌, ◌≤◌}
use Rattle.std.proofs.Common.{arith, inl, inr, ap, mul-le-mul_right}
use Rattle.std.proofs.Math.Nat.{pow-le-pow_right}
use Rattle.std.proofs.lemmas.Nat.{pow_pos, pow-add}
use Rattle.std.proofs.lemmas.Bool.{cases_lt}
use Rattle.cap_model.specs.words.Fields.{word_exponent, word_b, word_t14}
use Rattle.cap_model.specs.words.RawBounds.{region_floor, region_start, region_offset, raw_base, uncorrected_top, raw_top}
use Rattle.cap_model.proofs.Bounds.TopsBack.{corrected_low, corrected_high}
use Rattle.cap_model.proofs.Bounds.RegionPlaces.{start_of, place_of, above_floor, start_inside, start_wide, offset_is, bound_from}
use Rattle.cap_model.proofs.Bounds.BoundsDigits.{HasDigits}

-- The fields of a word's upper half say these bounds: their exponent, and 14 digits of each from there on.
pub record SaysBounds (upper e base top : ℕ) : Type 0 where
  pub exponent : word_exponent upper ≡ e
  pub b : word_b upper ≡ base / 2 ^ e % 2 ^ 14
  pub t : word_t14 upper ≡ top / 2 ^ e % 2 ^ 14

-- where the region begins, over 2^E
pub region_start_is : (e b a : ℕ) → region_start e (b % 2 ^ 14) a ≡ start_of (2 ^ e) b a
unfolding region_start region_floor
region_start_is e b a = let size : 2 ^ (e + 14) ≡ 2 ^ 14 * 2 ^ e = omega (arith, pow-add 2 e 14) in rw size

-- how far a bound is into the region, l steps above the base
pub region_offset_is : (e b d l : ℕ) → d ≡ b + l → l < 2 ^ 13 →
    region_offset e (b % 2 ^ 14) (d % 2 ^ 14) ≡ (2 ^ 11 + b % 2 ^ 11 + l) * 2 ^ e
unfolding region_offset region_floor
region_offset_is e b d l p h = rw (p, offset_is b l h)

-- powers are in the order of their exponents
pub powers : (e k : ℕ) → e ≤ k → 2 ^ e ≤ 2 ^ k
powers e k h = let two : 0 < 2 = omega arith in pow-le-pow_right two h

-- a whole number of regions goes round 2^64
pub regions : (e : ℕ) → e ≤ 50 → 2 ^ (50 - e) * (2 ^ 14 * 2 ^ e) ≡ 2 ^ 64
regions e h =
    let sum : (50 - e) + (e + 14) ≡ 64 = omega arith in
    let parts : 2 ^ 64 ≡ 2 ^ (50 - e) * (2 ^ e * 2 ^ 14) = rw (sum, pow-add 2 e 14) at (pow-add 2 (50 - e) (e + 14)) in
    omega arith

-- up to exponent 50 the start is R and a multiple of 2^64
pub start_low : (e b a : ℕ) → e < 51 → b * 2 ^ e < 2 ^ 64 → (e < 50 → place_of (2 ^ e) b a < 2 ^ 14 * 2 ^ e) →
    (n : ℕ) × (start_of (2 ^ e) b a + 2 ^ 11 * 2 ^ e ≡ b / 2 ^ 11 * (2 ^ 11 * 2 ^ e) + n * 2 ^ 64)
start_low e b a h p inside =
    let most = powers e 52 (omega arith) in
    elim (cases_lt e 50) [
      | inl low ↦
          (above_floor (2 ^ e) b a / 2 ^ 64, start_inside (2 ^ e) b a (2 ^ (50 - e)) (pow_pos e) most p (regions e (omega arith)) (inside low))
      | inr high ↦
          let fifty : e ≡ 50 = omega arith in
          let size : 2 ^ e ≡ 2 ^ 50 = ap (λ (z : ℕ). 2 ^ z) fifty in
          (above_floor (2 ^ e) b a / (2 ^ 14 * 2 ^ e) * 1, start_wide (2 ^ e) b a 1 (2 ^ 64) (pow_pos e) most p (omega arith))
    ]

-- from exponent 51 on it is R and a multiple of 2^65
pub start_high : (e b a : ℕ) → 51 ≤ e → e ≤ 52 → b * 2 ^ e < 2 ^ 64 →
    (n : ℕ) × (start_of (2 ^ e) b a + 2 ^ 11 * 2 ^ e ≡ b / 2 ^ 11 * (2 ^ 11 * 2 ^ e) + n * 2 ^ 65)
start_high e b a h k p =
    let most = powers e 52 k in
    elim (cases_lt e 52) [
      | inl low ↦
          let this : e ≡ 51 = omega arith in
          let size : 2 ^ e ≡ 2 ^ 51 = ap (λ (z : ℕ). 2 ^ z) this in
          (above_floor (2 ^ e) b a / (2 ^ 14 * 2 ^ e) * 1, start_wide (2 ^ e) b a 1 (2 ^ 65) (pow_pos e) most p (omega arith))
      | inr high ↦
          let this : e ≡ 52 = omega arith in
          let size : 2 ^ e ≡ 2 ^ 52 = ap (λ (z : ℕ). 2 ^ z) this in
          (above_floor (2 ^ e) b a / (2 ^ 14 * 2 ^ e) * 2, start_wide (2 ^ e) b a 2 (2 ^ 65) (pow_pos e) most p (omega arith))
    ]

-- the raw base over 2^E
pub raw_base_is : (upper e base top a : ℕ) → SaysBounds upper e base top →
    raw_base upper a ≡ (start_of (2 ^ e) (base / 2 ^ e) a + (2 ^ 11 + base / 2 ^ e % 2 ^ 11 + 0) * 2 ^ e) % 2 ^ 64
unfolding raw_base
raw_base_is upper e base top a says =
    let self : base / 2 ^ e ≡ base / 2 ^ e + 0 = omega arith in
    rw (says.exponent, says.b, region_start_is e (base / 2 ^ e) a, region_offset_is e (base / 2 ^ e) (base / 2 ^ e) 0 self (omega arith))

-- the raw base, from where the region begins
raw_base_from : (upper e base top a n : ℕ) → SaysBounds upper e base top → base / 2 ^ e * 2 ^ e ≡ base → base < 2 ^ 64 →
    start_of (2 ^ e) (base / 2 ^ e) a + 2 ^ 11 * 2 ^ e ≡ base / 2 ^ e / 2 ^ 11 * (2 ^ 11 * 2 ^ e) + n * 2 ^ 64 →
    raw_base upper a ≡ base
raw_base_from upper e base top a n says base_whole below start =
    let bound = bound_from (2 ^ e) (base / 2 ^ e) 0 (start_of (2 ^ e) (base / 2 ^ e) a) n (2 ^ 64) start in
    rw (raw_base_is upper e base top a says, bound) (omega arith)

-- the top before its correction, from where the region begins
uncorrected_from : (upper e base top a n size : ℕ) → SaysBounds upper e base top →
    base / 2 ^ e * 2 ^ e ≡ base → top / 2 ^ e * 2 ^ e ≡ top →
    base / 2 ^ e ≤ top / 2 ^ e → top / 2 ^ e < base / 2 ^ e + 2 ^ 13 →
    start_of (2 ^ e) (base / 2 ^ e) a + 2 ^ 11 * 2 ^ e ≡ base / 2 ^ e / 2 ^ 11 * (2 ^ 11 * 2 ^ e) + n * size →
    uncorrected_top upper a ≡ (top + n * size) % 2 ^ 65
unfolding uncorrected_top
uncorrected_from upper e base top a n size says base_whole top_whole ordered near start =
    let l : ℕ = top / 2 ^ e - base / 2 ^ e in
    let more : top / 2 ^ e ≡ base / 2 ^ e + l = omega arith in
    let scaled = ap (λ (z : ℕ). z * 2 ^ e) more in
    let bound = bound_from (2 ^ e) (base / 2 ^ e) l (start_of (2 ^ e) (base / 2 ^ e) a) n size start in
    let sum : start_of (2 ^ e) (base / 2 ^ e) a + (2 ^ 11 + base / 2 ^ e % 2 ^ 11 + l) * 2 ^ e ≡ top + n * size = omega arith in
    rw (says.exponent, says.b, says.t, region_start_is e (base / 2 ^ e) a, region_offset_is e (base / 2 ^ e) (top / 2 ^ e) l more (omega arith), sum)

-- a length of fewer than 2^13 steps of the exponent is below 2^63, up to exponent 50
length_below : (e b t : ℕ) → e < 51 → t < b + 2 ^ 13 → t * 2 ^ e < b * 2 ^ e + 2 ^ 63
length_below e b t h p =
    let most : 2 ^ e ≤ 2 ^ 50 = powers e 50 (omega arith) in
    let positive = pow_pos e in
    let scaled : (t + 1) * 2 ^ e ≤ (b + 2 ^ 13) * 2 ^ e = mul-le-mul_right (2 ^ e) (omega arith) in
    omega arith

-- the raw base is the base
pub raw_base_back : (upper ie e base top a : ℕ) → HasDigits ie e base top → SaysBounds upper e base top →
    (e < 50 → place_of (2 ^ e) (base / 2 ^ e) a < 2 ^ 14 * 2 ^ e) → raw_base upper a ≡ base
raw_base_back upper ie e base top a digits says inside =
    let whole = digits.base_whole in
    let below = digits.base_below in
    elim (cases_lt e 51) [
      | inl low ↦
          let start = start_low e (base / 2 ^ e) a low (omega arith) inside in
          raw_base_from upper e base top a start.0 says whole below start.1
      | inr high ↦
          let start = start_high e (base / 2 ^ e) a high digits.exponent_at_most (omega arith) in
          let known = start.1 in
          raw_base_from upper e base top a (start.0 * 2) says whole below (omega arith)
    ]

-- the raw top is the top
pub raw_top_back : (upper ie e base top a : ℕ) → HasDigits ie e base top → SaysBounds upper e base top →
    (e < 50 → place_of (2 ^ e) (base / 2 ^ e) a < 2 ^ 14 * 2 ^ e) → raw_top upper a ≡ top
unfolding raw_top
raw_top_back upper ie e base top a digits says inside =
    let whole = digits.base_whole in
    let top_whole = digits.top_whole in
    let base_is = raw_base_back upper ie e base top a digits says inside in
    let longer = digits.longer in
    let shorter = digits.shorter in
    let internal = digits.internal in
    let ordered : base / 2 ^ e ≤ top / 2 ^ e = omega arith in
    let near : top / 2 ^ e < base / 2 ^ e + 2 ^ 13 = omega arith in
    let base_below = digits.base_below in
    let top_most = digits.top_at_most in
    let scaled : base / 2 ^ e * 2 ^ e ≤ top / 2 ^ e * 2 ^ e = mul-le-mul_right (2 ^ e) ordered in
    elim (cases_lt e 51) [
      | inl low ↦
          let start = start_low e (base / 2 ^ e) a low (omega arith) inside in
          let uncorrected = uncorrected_from upper e base top a start.0 (2 ^ 64) says whole top_whole ordered near start.1 in
          let short = length_below e (base / 2 ^ e) (top / 2 ^ e) low near in
          rw (says.exponent, base_is, uncorrected) (corrected_low e base top start.0 low (omega arith) top_most (omega arith))
      | inr high ↦
          let start = start_high e (base / 2 ^ e) a high digits.exponent_at_most (omega arith) in
          let uncorrected = uncorrected_from upper e base top a start.0 (2 ^ 65) says whole top_whole ordered near start.1 in
          rw (says.exponent, base_is, uncorrected) (corrected_high e base top start.0 high top_most)
    ]
