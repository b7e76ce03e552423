-- The exponent, B and T that are read from fields which were made of lawful bounds.
use Rattle.std.specs.Prelude.{◌≡◌, ℕ, ◌+◌, ◌*◌, ◌/◌, ◌%◌, ◌^◌, ◌<◌, ◌≤◌, nat_lt, if◌then◌else◌}
use Rattle.std.proofs.Common.{arith, inl, inr}
use Rattle.std.proofs.lemmas.Bool.{cases_lt, lt-ltb, le-ltb}
use Rattle.cap_model.specs.words.Fields.{word_ie, stored_t, stored_b, word_exponent, word_b, word_t, word_t14}
use Rattle.cap_model.specs.values.Capability.{b_field, t_field}
use Rattle.cap_model.proofs.Bounds.BoundsDigits.{HasDigits}
use Rattle.cap_model.proofs.Bounds.BoundsBack.{SaysBounds}

-- the field B has 14 bits
pub b_field_lt : (ie e base top : ℕ) → HasDigits ie e base top → b_field ie e base < 2 ^ 14
unfolding b_field
b_field_lt ie e base top h = elim (cases_lt ie 1) [
  | inl low ↦ let zero_ie : ie ≡ 0 = omega arith in rw zero_ie (omega arith)
  | inr high ↦
      let internal = h.internal in
      let one_ie : ie ≡ 1 = omega arith in
      let eighths = h.base_eighths one_ie in
      rw one_ie (omega arith)
]

-- the field T has 12 bits
pub t_field_lt : (ie e base top : ℕ) → HasDigits ie e base top → t_field ie e top < 2 ^ 12
unfolding t_field
t_field_lt ie e base top h = elim (cases_lt ie 1) [
  | inl low ↦ let zero_ie : ie ≡ 0 = omega arith in rw zero_ie (omega arith)
  | inr high ↦
      let internal = h.internal in
      let most = h.exponent_at_most in
      let one_ie : ie ≡ 1 = omega arith in
      let eighths = h.top_eighths one_ie in
      rw one_ie (omega arith)
]

-- the exponent that is read
exponent_back : (upper ie e base top : ℕ) → HasDigits ie e base top →
    word_ie upper ≡ ie → stored_t upper ≡ t_field ie e top → stored_b upper ≡ b_field ie e base → word_exponent upper ≡ e
unfolding word_exponent b_field t_field
exponent_back upper ie e base top h i t b = elim (cases_lt ie 1) [
  | inl low ↦
      let zero_ie : ie ≡ 0 = omega arith in
      let external = h.external zero_ie in
      rw (i, zero_ie) (omega arith)
  | inr high ↦
      let internal = h.internal in
      let most = h.exponent_at_most in
      let one_ie : ie ≡ 1 = omega arith in
      let base_eighths = h.base_eighths one_ie in
      let top_eighths = h.top_eighths one_ie in
      rw (i, t, b, one_ie) (omega arith)
]

-- the digits of the base that are read
b_back : (upper ie e base top : ℕ) → HasDigits ie e base top →
    word_ie upper ≡ ie → stored_b upper ≡ b_field ie e base → word_b upper ≡ base / 2 ^ e % 2 ^ 14
unfolding word_b b_field
b_back upper ie e base top h i b = elim (cases_lt ie 1) [
  | inl low ↦
      let zero_ie : ie ≡ 0 = omega arith in
      rw (i, b, zero_ie) (omega arith)
  | inr high ↦
      let internal = h.internal in
      let one_ie : ie ≡ 1 = omega arith in
      let eighths = h.base_eighths one_ie in
      rw (i, b, one_ie) (omega arith)
]

-- the digits of the top that are read
t_back : (upper ie e base top : ℕ) → HasDigits ie e base top →
    word_ie upper ≡ ie → stored_t upper ≡ t_field ie e top → word_t upper ≡ top / 2 ^ e % 2 ^ 12
unfolding word_t t_field
t_back upper ie e base top h i t = elim (cases_lt ie 1) [
  | inl low ↦
      let zero_ie : ie ≡ 0 = omega arith in
      rw (i, t, zero_ie) (omega arith)
  | inr high ↦
      let internal = h.internal in
      let most = h.exponent_at_most in
      let one_ie : ie ≡ 1 = omega arith in
      let eighths = h.top_eighths one_ie in
      rw (i, t, one_ie) (omega arith)
]

-- the two digits of the top that are not stored
upper_digits : (ie b t : ℕ) → ie < 2 → b + ie * 2 ^ 12 ≤ t → t < b + ie * 2 ^ 12 + 2 ^ 12 →
    (b % 2 ^ 14 / 2 ^ 12 + (if nat_lt (t % 2 ^ 12) (b % 2 ^ 14 % 2 ^ 12) then 1 else 0) + ie) % 4 * 2 ^ 12 + t % 2 ^ 12 ≡ t % 2 ^ 14
upper_digits ie b t p q r = elim (cases_lt (t % 2 ^ 12) (b % 2 ^ 14 % 2 ^ 12)) [
  | inl below ↦ rw (lt-ltb _ _ below) (omega arith)
  | inr above ↦ rw (le-ltb _ _ above) (omega arith)
]

-- fields that were made of lawful bounds say these bounds
pub says_bounds : (upper ie e base top : ℕ) → HasDigits ie e base top →
    word_ie upper ≡ ie → stored_t upper ≡ t_field ie e top → stored_b upper ≡ b_field ie e base → SaysBounds upper e base top
unfolding word_t14
says_bounds upper ie e base top h i t b =
    let b_is = b_back upper ie e base top h i b in
    let t_is = t_back upper ie e base top h i t in
    record {
      exponent = exponent_back upper ie e base top h i t b;
      b = b_is;
      t = rw (b_is, t_is, i) (upper_digits ie (base / 2 ^ e) (top / 2 ^ e) h.internal h.longer h.shorter);
    }
