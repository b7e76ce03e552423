-- The length of any word's bounds in steps of 2^E, and when the fields that say bounds are those that these bounds have.
use Rattle.std.specs.Prelude.{◌≡◌, ℕ, ◌+◌, ◌-◌, ◌*◌, ◌/◌, ◌%◌, ◌^◌, ◌<◌, ◌≤◌, nat_lt, if◌then◌else◌}
use Rattle.std.proofs.Common.{arith, inl, inr, ap, refl, sym, ◌∙◌}
use Rattle.std.proofs.Math.Nat.{mul-div-mul_right, add-mul-div_right, mul-le-mul_left}
use Rattle.std.proofs.lemmas.Nat.{pow_pos, pow-add}
use Rattle.std.proofs.lemmas.Bool.{cases_lt, lt-ltb, le-ltb}
use Rattle.cap_model.specs.words.Fields.{with_null_fields, word_ie, stored_t, stored_b, word_exponent, word_b, word_t, word_t14}
use Rattle.cap_model.specs.words.RawBounds.{raw_base, uncorrected_top, corrected_top, raw_top}
use Rattle.cap_model.specs.values.Capability.{Capability, IsLawful, b_field, t_field, upper_of}
use Rattle.cap_model.proofs.Bounds.BoundsDigits.{HasDigits, has_digits}
use Rattle.cap_model.proofs.Bounds.BoundsBack.{SaysBounds, powers}
use Rattle.cap_model.proofs.Bounds.RawAligned.{AreSteps, bounds_steps, word_ie_lt, top_is, base_multiple, top_multiple}
use Rattle.cap_model.proofs.Words.FieldsBack.{has_ie, has_t, has_b}
use Rattle.cap_model.proofs.Words.WordsBack.{upper_has_fields, upper_says_bounds}
use Rattle.cap_model.proofs.Words.RawWords.{word_exponent_at_most, word_b_lt, word_t_lt}
use Rattle.cap_ops.specs.Tagged.{stored_exponent, length_steps}

-- T lies just so many steps above B
steps_told : (ie b t l : ℕ) → ie < 2 → b < 2 ^ 14 → t < 2 ^ 12 → l < 2 ^ 13 →
    (b / 2 ^ 12 + (if nat_lt t (b % 2 ^ 12) then 1 else 0) + ie) % 4 * 2 ^ 12 + t ≡ (b + l) % 2 ^ 14 →
    l ≡ ie * 2 ^ 12 + (t + 2 ^ 12 - b % 2 ^ 12) % 2 ^ 12
steps_told ie b t l i p q fewer same = elim (cases_lt t (b % 2 ^ 12)) [
  | inl below ↦ (let digits = rw (lt-ltb _ _ below) at same in omega arith)
  | inr above ↦ (let digits = rw (le-ltb _ _ above) at same in omega arith)
]

-- from exponent 51 on
high_51 : (x l b base top : ℕ) → base ≡ x * 2 ^ 51 % 2 ^ 64 → top ≡ (x * 2 ^ 51 + l * 2 ^ 51) % 2 ^ 65 → x % 2 ^ 14 ≡ b →
    base / 2 ^ 51 % 2 ^ 14 ≡ b → base + l * 2 ^ 51 ≤ 2 ^ 64 → top ≡ base + l * 2 ^ 51
high_51 x l b base top low high digits own room = omega arith

high_52 : (x l b base top : ℕ) → base ≡ x * 2 ^ 52 % 2 ^ 64 → top ≡ (x * 2 ^ 52 + l * 2 ^ 52) % 2 ^ 65 → x % 2 ^ 14 ≡ b →
    base / 2 ^ 52 % 2 ^ 14 ≡ b → base + l * 2 ^ 52 ≤ 2 ^ 64 → top ≡ base + l * 2 ^ 52
high_52 x l b base top low high digits own room = omega arith

high_bounds : (e x l b base top : ℕ) → 51 ≤ e → e ≤ 52 → base ≡ x * 2 ^ e % 2 ^ 64 → top ≡ (x * 2 ^ e + l * 2 ^ e) % 2 ^ 65 →
    x % 2 ^ 14 ≡ b → base / 2 ^ e % 2 ^ 14 ≡ b → base + l * 2 ^ e ≤ 2 ^ 64 → top ≡ base + l * 2 ^ e
high_bounds e x l b base top h k low high digits own room = elim (cases_lt e 52) [
  | inl less ↦
      (let this : e ≡ 51 = omega arith in
      rw this (high_51 x l b base top (rw this at low) (rw this at high) digits (rw this at own) (rw this at room)))
  | inr most ↦
      (let this : e ≡ 52 = omega arith in
      rw this (high_52 x l b base top (rw this at low) (rw this at high) digits (rw this at own) (rw this at room)))
]

-- Fields that say bounds of the address space in one way alone: an exponent of at most 52, no digit of B above the
-- address space, and a top that is not beyond it.
pub record IsSaidOnce (upper base : ℕ) : Type 0 where
  pub exponent : stored_exponent upper ≤ 52
  pub digits : base / 2 ^ word_exponent upper % 2 ^ 14 ≡ word_b upper
  pub room : base + length_steps upper * 2 ^ word_exponent upper ≤ 2 ^ 64

module _ (upper a x l : ℕ) (steps : AreSteps upper a x l) where
  told : l ≡ length_steps upper
  unfolding length_steps word_t14
  told =
      let internal = word_ie_lt upper in
      let fewer = steps.fewer in
      steps_told (word_ie upper) (word_b upper) (word_t upper) l internal (word_b_lt upper) (word_t_lt upper) (omega arith) steps.top_digits

  uncorrected : 51 ≤ word_exponent upper → raw_top upper a ≡ uncorrected_top upper a
  unfolding raw_top corrected_top
  uncorrected high = rw (le-ltb (word_exponent upper) 51 high) refl

  said_top : IsSaidOnce upper (raw_base upper a) → raw_top upper a ≡ raw_base upper a + l * 2 ^ word_exponent upper
  said_top says = elim (cases_lt (word_exponent upper) 51) [
    | inl low ↦ top_is upper a x l steps low
    | inr high ↦
        rw (uncorrected high)
        (high_bounds (word_exponent upper) x l (word_b upper) _ _ high (word_exponent_at_most upper) steps.base steps.top
        steps.base_digits says.digits (rw told says.room))
  ]

-- the bounds that such fields say
pub record HasOwnFields (upper base top : ℕ) : Type 0 where
  pub ordered : base ≤ top
  pub top_at_most : top ≤ 2 ^ 64
  pub length : (top - base) / 2 ^ (word_exponent upper + 12) ≡ word_ie upper
  pub base_fits : base % 2 ^ (word_ie upper * (word_exponent upper + 3)) ≡ 0
  pub top_fits : top % 2 ^ (word_ie upper * (word_exponent upper + 3)) ≡ 0
  pub fields : with_null_fields upper % 2 ^ 27
      ≡ word_ie upper * 2 ^ 26 + t_field (word_ie upper) (word_exponent upper) top * 2 ^ 14 + b_field (word_ie upper) (word_exponent upper) base

-- a length in steps, over 2^(e+12)
length_over : (e l ie : ℕ) → l / 2 ^ 12 ≡ ie → l * 2 ^ e / 2 ^ (e + 12) ≡ ie
length_over e l ie same =
    let size : 2 ^ (e + 12) ≡ 2 ^ 12 * 2 ^ e = omega (arith, pow-add 2 e 12) in
    rw size (mul-div-mul_right l (2 ^ 12) (pow_pos e) ∙ same)

-- what is a multiple with IE 1 is a multiple of the alignment
multiple_by_ie : (ie e n : ℕ) → ie < 2 → (ie ≡ 1 → n % 2 ^ (e + 3) ≡ 0) → n % 2 ^ (ie * (e + 3)) ≡ 0
multiple_by_ie ie e n below multiple = elim (cases_lt ie 1) [
  | inl low ↦ (let none : ie ≡ 0 = omega arith in let flat : 0 * (e + 3) ≡ 0 = omega arith in rw (none, flat) (omega arith))
  | inr high ↦ (let one : ie ≡ 1 = omega arith in let all : 1 * (e + 3) ≡ e + 3 = omega arith in rw (one, all) (multiple one))
]

-- B and T as stored, by their digits and the exponent
stored_parts : (upper e : ℕ) → word_ie upper < 2 → stored_exponent upper ≤ 52 → word_exponent upper ≡ e →
    (stored_b upper ≡ word_b upper + word_ie upper * (e % 8)) × (stored_t upper ≡ word_t upper + word_ie upper * (e / 8))
unfolding stored_exponent word_exponent word_b word_t
stored_parts upper e internal most is = elim (cases_lt (word_ie upper) 1) [
  | inl low ↦ (let none : word_ie upper ≡ 0 = omega arith in rw none (omega arith, omega arith))
  | inr high ↦
      (let one : word_ie upper ≡ 1 = omega arith in
      let fits = rw one at most in
      let exponent_is = rw one at is in
      rw one (omega arith, omega arith))
]

all_fields : (upper : ℕ) → with_null_fields upper % 2 ^ 27 ≡ word_ie upper * 2 ^ 26 + stored_t upper * 2 ^ 14 + stored_b upper
unfolding word_ie stored_t stored_b
all_fields upper = omega arith

steps_over : (e base l : ℕ) → (base + l * 2 ^ e) / 2 ^ e ≡ base / 2 ^ e + l
steps_over e base l = add-mul-div_right base l (pow_pos e)

top_of_digits : (ie b t d l : ℕ) → ie < 2 → b < 2 ^ 14 → t < 2 ^ 12 → d % 2 ^ 14 ≡ b → l ≡ ie * 2 ^ 12 + (t + 2 ^ 12 - b % 2 ^ 12) % 2 ^ 12 →
    (d + l) % 2 ^ 12 ≡ t
top_of_digits ie b t d l internal p q own is = omega arith

steps_by_ie : (ie b t l : ℕ) → ie < 2 → l ≡ ie * 2 ^ 12 + (t + 2 ^ 12 - b % 2 ^ 12) % 2 ^ 12 → l / 2 ^ 12 ≡ ie
steps_by_ie ie b t l internal is = omega arith

has_own_fields : (upper a x l : ℕ) → AreSteps upper a x l → IsSaidOnce upper (raw_base upper a) → HasOwnFields upper (raw_base upper a) (raw_top upper a)
unfolding b_field t_field length_steps
has_own_fields upper a x l steps says =
    let top = said_top upper a x l steps says in
    let is = told upper a x l steps in
    let room = rw (← is) at says.room in
    let internal = word_ie_lt upper in
    let stored = stored_parts upper (word_exponent upper) internal says.exponent refl in
    let over : raw_top upper a / 2 ^ word_exponent upper ≡ raw_base upper a / 2 ^ word_exponent upper + l = rw top (steps_over _ _ _) in
    let digits : (raw_base upper a / 2 ^ word_exponent upper + l) % 2 ^ 12 ≡ word_t upper =
    top_of_digits (word_ie upper) (word_b upper) (word_t upper) _ l internal (word_b_lt upper) (word_t_lt upper) says.digits is in
    let len : raw_top upper a - raw_base upper a ≡ l * 2 ^ word_exponent upper = omega arith in
    record {
      ordered = omega arith;
      top_at_most = omega arith;
      length = rw len (length_over _ l _ (steps_by_ie _ (word_b upper) (word_t upper) l internal is));
      base_fits = multiple_by_ie _ _ _ internal (base_multiple upper a x l steps);
      top_fits = multiple_by_ie _ _ _ internal (top_multiple upper a x l steps);
      fields = rw (over, digits, says.digits, ← stored.0, ← stored.1) (all_fields upper);
    }

-- fields that say bounds of the address space in one way alone are those that these bounds have
pub own_fields : (upper a : ℕ) → IsSaidOnce upper (raw_base upper a) → HasOwnFields upper (raw_base upper a) (raw_top upper a)
own_fields upper a says =
    let steps = bounds_steps upper a in has_own_fields upper a steps.0 steps.1.0 steps.1.1 says

-- the fields of lawful bounds say them so
length_of_digits : (ie b t low high : ℕ) → ie < 2 → b ≡ low % 2 ^ 14 → t ≡ high % 2 ^ 12 → low + ie * 2 ^ 12 ≤ high →
    high < low + ie * 2 ^ 12 + 2 ^ 12 → ie * 2 ^ 12 + (t + 2 ^ 12 - b % 2 ^ 12) % 2 ^ 12 + low ≡ high
length_of_digits ie b t low high internal base top longer shorter = omega arith

exponent_of_digits : (ie e t b low high : ℕ) → ie ≡ 1 → e ≤ 52 → t ≡ high % 2 ^ 12 + ie * (e / 8) → b ≡ low % 2 ^ 14 + ie * (e % 8) →
    low % 8 ≡ 0 → high % 8 ≡ 0 → 8 * (t % 8) + b % 8 ≤ 52
exponent_of_digits ie e t b low high one most top base low_eighths high_eighths =
    let first = rw one at top in let second = rw one at base in omega arith

exponent_stored : (upper ie e base top : ℕ) → HasDigits ie e base top → word_ie upper ≡ ie → stored_t upper ≡ t_field ie e top →
    stored_b upper ≡ b_field ie e base → stored_exponent upper ≤ 52
unfolding stored_exponent t_field b_field
exponent_stored upper ie e base top digits i t b = elim (cases_lt ie 1) [
  | inl low ↦ (let none : ie ≡ 0 = omega arith in rw (i, none) (omega arith))
  | inr high ↦
      (let internal = digits.internal in
      let one : ie ≡ 1 = omega arith in
      rw (i, one)
      (exponent_of_digits ie e _ _ _ _ one digits.exponent_at_most t b (digits.base_eighths one) (digits.top_eighths one)))
]

t_of_t14 : (upper : ℕ) → word_t upper ≡ word_t14 upper % 2 ^ 12
unfolding word_t14
t_of_t14 upper = let below = word_t_lt upper in omega arith

room_of_digits : (upper ie e base top : ℕ) → HasDigits ie e base top → word_ie upper ≡ ie → SaysBounds upper e base top →
    base + length_steps upper * 2 ^ e ≤ 2 ^ 64
unfolding length_steps
room_of_digits upper ie e base top digits i says =
    let t_is = t_of_t14 upper in
    let t14_is = says.t in
    let t : word_t upper ≡ top / 2 ^ e % 2 ^ 12 = omega arith in
    let sum = length_of_digits ie (word_b upper) (word_t upper) (base / 2 ^ e) (top / 2 ^ e) digits.internal says.b t digits.longer digits.shorter in
    let scaled = ap (λ (z : ℕ). z * 2 ^ e) sum in
    let low = digits.base_whole in
    let high = digits.top_whole in
    let most = digits.top_at_most in
    rw i (omega arith)

pub said_of_lawful : (c : Capability) → IsLawful c → IsSaidOnce (upper_of c) c.base
said_of_lawful c h =
    let fields = upper_has_fields c h in
    let says = upper_says_bounds c h in
    let digits = has_digits c h in
    let i = has_ie _ _ _ _ _ _ _ fields in
    record {
      exponent = exponent_stored (upper_of c) _ _ c.base c.top digits i (has_t _ _ _ _ _ _ _ fields) (has_b _ _ _ _ _ _ _ fields);
      digits = rw says.exponent (sym says.b);
      room = rw says.exponent (room_of_digits (upper_of c) _ _ c.base c.top digits i says);
    }

-- a length in bytes is below 2^65
pub length_below : (l e : ℕ) → l < 2 ^ 13 → e ≤ 52 → l * 2 ^ e < 2 ^ 65
length_below l e few most =
    let size : 2 ^ e ≤ 2 ^ 52 = powers e 52 most in
    let scaled : l * 2 ^ e ≤ l * 2 ^ 52 = mul-le-mul_left l size in
    omega arith
