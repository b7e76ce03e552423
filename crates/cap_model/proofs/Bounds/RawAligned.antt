-- Bounds that any word says are multiples of their length's alignment, where the base is at most the top and the top
-- at most 2^64. Over 2^E the base is x and the top l steps further on.
use Rattle.std.specs.Prelude.{◌≡◌, ℕ, ◌+◌, ◌-◌, ◌*◌, ◌/◌, ◌%◌, ◌^◌, ◌<◌, ◌≤◌, ◌==◌, ◌&&◌, nat_lt, if◌then◌else◌, true}
use Rattle.std.proofs.Common.{arith, inl, inr, ap, refl, mul-le-mul_right}
use Rattle.std.proofs.Math.Nat.{mul-mod_left}
use Rattle.std.proofs.lemmas.Nat.{pow_pos, pow-add, div-add-mod'}
use Rattle.std.proofs.lemmas.Bool.{cases_lt, cond_both, lt-ltb, le-ltb}
use Rattle.cap_model.specs.bounds.Lengths.{exponent}
use Rattle.cap_model.specs.words.Fields.{word_ie, stored_t, stored_b, word_exponent, word_b, word_t, word_t14}
use Rattle.cap_model.specs.words.RawBounds.{region_floor, region_start, region_offset, raw_base, uncorrected_top, corrected_top, raw_top, halves_above, other_top}
use Rattle.cap_model.specs.results.Rebuilt.{are_aligned}
use Rattle.cap_model.proofs.Bounds.RegionStarts.{region_start_greatest}
use Rattle.cap_model.proofs.Bounds.BoundsBack.{powers}
use Rattle.cap_model.proofs.Rounding.Exponents.{alignment_small, exponent_least, alignment_power, alignment_bits}
use Rattle.cap_model.proofs.Rounding.Multiples.{multiple_of_lower_power, multiple_sum, multiple_rest}
use Rattle.cap_model.proofs.Words.RawWords.{word_exponent_at_most, word_b_lt, word_t_lt, raw_base_lt}

-- T lies l steps above B, modulo 2^14: fewer than 2^12, or with IE 1 than 2^13 and a multiple of 8.
pub record IsStepsAbove (ie b t l : ℕ) : Type 0 where
  pub digits : t ≡ (b + l) % 2 ^ 14
  pub fewer : l < ie * 2 ^ 12 + 2 ^ 12
  pub eighths : ie ≡ 1 → l % 8 ≡ 0

-- the steps, by the two digits of T that are not stored
steps_above : (ie b t : ℕ) → ie < 2 → b < 2 ^ 14 → t < 2 ^ 12 → (ie ≡ 1 → b % 8 ≡ 0) → (ie ≡ 1 → t % 8 ≡ 0) →
    (l : ℕ) × IsStepsAbove ie b ((b / 2 ^ 12 + (if nat_lt t (b % 2 ^ 12) then 1 else 0) + ie) % 4 * 2 ^ 12 + t) l
steps_above ie b t i p q base_eighths top_eighths = elim (cases_lt t (b % 2 ^ 12)) [
  | inl below ↦ (
    ie * 2 ^ 12 + 2 ^ 12 + t - b % 2 ^ 12,
    record {
      digits = rw (lt-ltb _ _ below) (omega arith);
      fewer = omega arith;
      eighths = λ one. let first = base_eighths one in let second = top_eighths one in omega arith;
    },
  )
  | inr above ↦ (
    ie * 2 ^ 12 + t - b % 2 ^ 12,
    record {
      digits = rw (le-ltb _ _ above) (omega arith);
      fewer = omega arith;
      eighths = λ one. let first = base_eighths one in let second = top_eighths one in omega arith;
    },
  )
]

pub word_ie_lt : (upper : ℕ) → word_ie upper < 2
unfolding word_ie
word_ie_lt upper = omega arith

word_b_eighths : (upper : ℕ) → word_ie upper ≡ 1 → word_b upper % 8 ≡ 0
unfolding word_b
word_b_eighths upper one = rw one (mul-mod_left (stored_b upper / 8) 8)

word_t_eighths : (upper : ℕ) → word_ie upper ≡ 1 → word_t upper % 8 ≡ 0
unfolding word_t
word_t_eighths upper one = rw one (mul-mod_left (stored_t upper / 8) 8)

-- how far the T of a word lies above its B
word_steps : (upper : ℕ) → (l : ℕ) × IsStepsAbove (word_ie upper) (word_b upper) (word_t14 upper) l
unfolding word_t14
word_steps upper =
    steps_above (word_ie upper) (word_b upper) (word_t upper) (word_ie_lt upper) (word_b_lt upper) (word_t_lt upper)
    (word_b_eighths upper) (word_t_eighths upper)

-- with IE 0 the exponent is 0
exponent_zero : (upper : ℕ) → word_ie upper ≡ 0 → word_exponent upper ≡ 0
unfolding word_exponent
exponent_zero upper zero_ie = rw zero_ie refl

-- how far a bound is into the region
base_offset : (e b : ℕ) → b < 2 ^ 14 → region_offset e b b ≡ (2 ^ 11 + b % 2 ^ 11) * 2 ^ e
unfolding region_offset region_floor
base_offset e b h =
    let steps : (b + 2 ^ 14 - (b / 2 ^ 11 + 7) % 8 * 2 ^ 11) % 2 ^ 14 ≡ 2 ^ 11 + b % 2 ^ 11 = omega arith in
    rw steps refl

top_offset : (e b t l : ℕ) → b < 2 ^ 14 → t ≡ (b + l) % 2 ^ 14 → l < 2 ^ 13 → region_offset e b t ≡ (2 ^ 11 + b % 2 ^ 11 + l) * 2 ^ e
unfolding region_offset region_floor
top_offset e b t l h digits fewer =
    let steps : (t + 2 ^ 14 - (b / 2 ^ 11 + 7) % 8 * 2 ^ 11) % 2 ^ 14 ≡ 2 ^ 11 + b % 2 ^ 11 + l = omega arith in
    rw steps refl

-- the region's start in steps of 2^E, of which 8 make a multiple
start_steps : (e b a : ℕ) → e ≤ 52 →
    (k : ℕ) × ((region_start e b a ≡ k * 2 ^ 11 * 2 ^ e) × (k % 8 ≡ (b / 2 ^ 11 + 7) % 8))
unfolding region_floor
start_steps e b a h =
    let greatest = region_start_greatest e b a h in
    let whole = div-add-mod' (region_start e b a) (2 ^ (e + 14)) in
    let size : 2 ^ (e + 14) ≡ 2 ^ 14 * 2 ^ e = omega (arith, pow-add 2 e 14) in
    let scaled = ap (λ (z : ℕ). region_start e b a / 2 ^ (e + 14) * z) size in
    let congruent = greatest.congruent in
    (region_start e b a / 2 ^ (e + 14) * 8 + (b / 2 ^ 11 + 7) % 8, (omega arith, omega arith))

-- a number of steps that is a multiple of 8 makes a multiple of 2^(E+3)
eighths_multiple : (e x : ℕ) → x % 8 ≡ 0 → x * 2 ^ e % 2 ^ (e + 3) ≡ 0
eighths_multiple e x h =
    let size : 2 ^ (e + 3) ≡ 8 * 2 ^ e = omega (arith, pow-add 2 e 3) in
    let place : x ≡ x / 8 * 8 = omega arith in
    let scaled = ap (λ (z : ℕ). z * 2 ^ e) place in
    let whole : x * 2 ^ e ≡ x / 8 * 2 ^ (e + 3) = omega (arith, ap (λ (z : ℕ). x / 8 * z) size) in
    rw whole (mul-mod_left (x / 8) (2 ^ (e + 3)))

-- going round at a higher power of 2 leaves a multiple
multiple_round : (i j n : ℕ) → i ≤ j → n % 2 ^ i ≡ 0 → n % 2 ^ j % 2 ^ i ≡ 0
multiple_round i j n ordered multiple =
    let rounds = multiple_of_lower_power i j (n / 2 ^ j * 2 ^ j) ordered (mul-mod_left (n / 2 ^ j) (2 ^ j)) in
    let whole : n / 2 ^ j * 2 ^ j + n % 2 ^ j ≡ n = div-add-mod' n (2 ^ j) in
    multiple_rest (2 ^ i) (n / 2 ^ j * 2 ^ j) (n % 2 ^ j) rounds (rw whole multiple)

corrected_multiple : (i e base top : ℕ) → i ≤ 64 → top % 2 ^ i ≡ 0 → corrected_top e base top % 2 ^ i ≡ 0
unfolding corrected_top
corrected_multiple i e base top fits multiple =
    let power = multiple_of_lower_power i 64 (2 ^ 64) fits refl in
    let inverted = multiple_round i 65 (top + 2 ^ 64) (omega arith) (multiple_sum (2 ^ i) top (2 ^ 64) multiple power) in
    cond_both (nat_lt e 51 && nat_lt 1 (halves_above base top)) (other_top top) top (λ x. x % 2 ^ i ≡ 0) (λ _. inverted) (λ _. multiple)

equal : (a b : ℕ) → a ≡ b → (a == b) ≡ true
equal a b e = rw e (grind arith)

-- multiples of 2^(e+3) are aligned where the length calls for an exponent up to e
aligned_where_short : (e base top : ℕ) → base % 2 ^ (e + 3) ≡ 0 → top % 2 ^ (e + 3) ≡ 0 → top - base < 2 ^ (e + 13) → are_aligned base top ≡ true
aligned_where_short e base top base_multiple top_multiple short =
    let least = exponent_least (top - base) e short in
    let bits : alignment_bits (top - base) ≤ e + 3 =
    cond_both (nat_lt (top - base) (2 ^ 12)) 0 (exponent (top - base) + 3) (λ x. x ≤ e + 3) (λ _. omega arith) (λ _. omega arith) in
    let base_fits = multiple_of_lower_power (alignment_bits (top - base)) (e + 3) base bits base_multiple in
    let top_fits = multiple_of_lower_power (alignment_bits (top - base)) (e + 3) top bits top_multiple in
    rw (alignment_power (top - base), equal _ _ base_fits, equal _ _ top_fits) refl

aligned_where_tiny : (base top : ℕ) → top - base < 2 ^ 12 → are_aligned base top ≡ true
aligned_where_tiny base top tiny =
    rw (alignment_small (top - base) tiny, equal (base % 1) 0 (omega arith), equal (top % 1) 0 (omega arith)) refl

-- up to exponent 50 the correction leaves the top where it is above the base
corrected_near : (e base t n : ℕ) → e < 51 → base ≤ t → base < 2 ^ 64 → t < base + 2 ^ 63 → corrected_top e base ((t + n * 2 ^ 64) % 2 ^ 65) ≡ t
unfolding corrected_top
corrected_near e base t n h p q r =
    rw (lt-ltb e 51 h)
    (elim (cases_lt 1 (((t + n * 2 ^ 64) % 2 ^ 65 / 2 ^ 63 + 4 - base / 2 ^ 63) % 4)) [
      | inl apart ↦ rw (lt-ltb _ _ apart) (omega arith)
      | inr near ↦ rw (le-ltb _ _ near) (omega arith)
    ])

-- the bounds of a word, x steps of 2^E up for the base before it goes round, and l more for the top
pub record AreSteps (upper a x l : ℕ) : Type 0 where
  pub base : raw_base upper a ≡ x * 2 ^ word_exponent upper % 2 ^ 64
  pub top : uncorrected_top upper a ≡ (x * 2 ^ word_exponent upper + l * 2 ^ word_exponent upper) % 2 ^ 65
  pub base_digits : x % 2 ^ 14 ≡ word_b upper
  pub top_digits : word_t14 upper ≡ (word_b upper + l) % 2 ^ 14
  pub fewer : l < word_ie upper * 2 ^ 12 + 2 ^ 12
  pub base_eighths : word_ie upper ≡ 1 → x % 8 ≡ 0
  pub top_eighths : word_ie upper ≡ 1 → (x + l) % 8 ≡ 0

pub bounds_steps : (upper a : ℕ) → (x : ℕ) × ((l : ℕ) × AreSteps upper a x l)
unfolding raw_base uncorrected_top
bounds_steps upper a =
    let e : ℕ = word_exponent upper in
    let b : ℕ = word_b upper in
    let b_below : b < 2 ^ 14 = word_b_lt upper in
    let start = start_steps e b a (word_exponent_at_most upper) in
    let steps = word_steps upper in
    let fewer = steps.1.fewer in
    let internal = word_ie_lt upper in
    let base_in = base_offset e b b_below in
    let top_in = top_offset e b (word_t14 upper) steps.0 b_below steps.1.digits (omega arith) in
    let start_is = start.1.0 in
    let turned = start.1.1 in
    let x : ℕ = start.0 * 2 ^ 11 + 2 ^ 11 + b % 2 ^ 11 in
    let base_sum : region_start e b a + region_offset e b b ≡ x * 2 ^ e = omega arith in
    let top_sum : region_start e b a + region_offset e b (word_t14 upper) ≡ x * 2 ^ e + steps.0 * 2 ^ e = omega arith in (
      x,
      (
        steps.0,
        record {
          base = rw base_sum refl;
          top = rw top_sum refl;
          base_digits = omega arith;
          top_digits = steps.1.digits;
          fewer = fewer;
          base_eighths = λ one. let eighths = word_b_eighths upper one in omega arith;
          top_eighths = λ one. let eighths = word_b_eighths upper one in let more = steps.1.eighths one in omega arith;
        },
      ),
    )

module _ (upper a x l : ℕ) (steps : AreSteps upper a x l) where
  abbrev e : ℕ
  e = word_exponent upper

  -- with IE 1 both bounds are multiples of 2^(E+3)
  pub base_multiple : word_ie upper ≡ 1 → raw_base upper a % 2 ^ (e + 3) ≡ 0
  base_multiple one =
      let most = word_exponent_at_most upper in
      rw steps.base (multiple_round (e + 3) 64 (x * 2 ^ e) (omega arith) (eighths_multiple e x (steps.base_eighths one)))

  pub top_multiple : word_ie upper ≡ 1 → raw_top upper a % 2 ^ (e + 3) ≡ 0
  unfolding raw_top
  top_multiple one =
      let most = word_exponent_at_most upper in
      let sum : (x + l) * 2 ^ e ≡ x * 2 ^ e + l * 2 ^ e = omega arith in
      let whole : (x * 2 ^ e + l * 2 ^ e) % 2 ^ (e + 3) ≡ 0 = rw sum at (eighths_multiple e (x + l) (steps.top_eighths one)) in
      let round : uncorrected_top upper a % 2 ^ (e + 3) ≡ 0 = rw steps.top (multiple_round (e + 3) 65 _ (omega arith) whole) in
      corrected_multiple (e + 3) e (raw_base upper a) (uncorrected_top upper a) (omega arith) round

  -- up to exponent 50 the top is l steps above the base
  pub top_is : e < 51 → raw_top upper a ≡ raw_base upper a + l * 2 ^ e
  unfolding raw_top
  top_is low =
      let internal = word_ie_lt upper in
      let fewer = steps.fewer in
      let most : 2 ^ e ≤ 2 ^ 50 = powers e 50 (omega arith) in
      let positive = pow_pos e in
      let scaled : (l + 1) * 2 ^ e ≤ 2 ^ 13 * 2 ^ e = mul-le-mul_right (2 ^ e) (omega arith) in
      let base_is = steps.base in
      let below = raw_base_lt upper a in
      let rounds : ℕ = x * 2 ^ e / 2 ^ 64 in
      let sum : x * 2 ^ e + l * 2 ^ e ≡ raw_base upper a + l * 2 ^ e + rounds * 2 ^ 64 = omega arith in
      rw (steps.top, sum) (corrected_near e (raw_base upper a) (raw_base upper a + l * 2 ^ e) rounds low (omega arith) below (omega arith))

  -- so its length is below 2^(E+13)
  low_aligned : word_ie upper ≡ 1 → e < 51 → are_aligned (raw_base upper a) (raw_top upper a) ≡ true
  low_aligned one low =
      let fewer = steps.fewer in
      let is = top_is low in
      let positive = pow_pos e in
      let scaled : (l + 1) * 2 ^ e ≤ 2 ^ 13 * 2 ^ e = mul-le-mul_right (2 ^ e) (omega arith) in
      aligned_where_short e (raw_base upper a) (raw_top upper a) (base_multiple one) (top_multiple one) (omega (arith, pow-add 2 e 13))

  -- with IE 0 it is below 2^12
  tiny_aligned : word_ie upper ≡ 0 → are_aligned (raw_base upper a) (raw_top upper a) ≡ true
  tiny_aligned zero_ie =
      let fewer = steps.fewer in
      let none = exponent_zero upper zero_ie in
      let one : 2 ^ e ≡ 1 = ap (λ (z : ℕ). 2 ^ z) none in
      let scaled = ap (λ (z : ℕ). l * z) one in
      let is = top_is (omega arith) in
      aligned_where_tiny (raw_base upper a) (raw_top upper a) (omega arith)

  -- From exponent 51 on a length that has room in the address space is short enough, but for the whole of it.
  high_aligned : word_ie upper ≡ 1 → 51 ≤ e → raw_top upper a ≤ 2 ^ 64 → are_aligned (raw_base upper a) (raw_top upper a) ≡ true
  high_aligned one high inside =
      let most = word_exponent_at_most upper in
      elim (cases_lt (raw_top upper a - raw_base upper a) (2 ^ 64)) [
        | inl less ↦
            let bigger : 2 ^ 64 ≤ 2 ^ (e + 13) = powers 64 (e + 13) (omega arith) in
            aligned_where_short e (raw_base upper a) (raw_top upper a) (base_multiple one) (top_multiple one) (omega arith)
        | inr all ↦
            let none : raw_base upper a ≡ 0 = omega arith in
            let end : raw_top upper a ≡ 2 ^ 64 = omega arith in
            rw (none, end) (aligned_where_short 52 0 (2 ^ 64) refl refl (omega arith))
      ]

  steps_aligned : raw_top upper a ≤ 2 ^ 64 → are_aligned (raw_base upper a) (raw_top upper a) ≡ true
  steps_aligned inside =
      let internal = word_ie_lt upper in
      elim (cases_lt (word_ie upper) 1) [
        | inl low ↦ tiny_aligned (omega arith)
        | inr high ↦ elim (cases_lt e 51) [
          | inl small ↦ low_aligned (omega arith) small
          | inr large ↦ high_aligned (omega arith) large inside
        ]
      ]

-- the bounds of any word, where the top is at most 2^64
pub raw_bounds_aligned : (upper a : ℕ) → raw_top upper a ≤ 2 ^ 64 → are_aligned (raw_base upper a) (raw_top upper a) ≡ true
raw_bounds_aligned upper a inside = let steps = bounds_steps upper a in steps_aligned upper a steps.0 steps.1.0 steps.1.1 inside
