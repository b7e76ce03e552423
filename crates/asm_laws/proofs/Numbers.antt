-- What two shifts of 64 bits leave, and other numbers that pseudo-instructions leave.
use Rattle.std.proofs.Common.{◌≡◌, inl, inr, refl, ap, sym, ◌∙◌, ℕ, zero, suc, ◌+◌, ◌-◌, ◌*◌, ◌%◌}
use Rattle.std.proofs.Common.{◌^◌, ◌<◌, ◌≤◌, ◌==◌, not, arith}
use Rattle.std.specs.Prelude.{bit_and, bit_xor, nat_lt}
use Rattle.std.specs.Int.{w8, w16, w64, cast_signed, cast_unsigned, int_shr}
use Rattle.std.proofs.lemmas.Bool.{cases_lt, le-ltb, lt-ltb, eq-eqb, ne_eqb}
use Rattle.std.proofs.lemmas.Int.{to_z_pos}
use Rattle.std.proofs.lemmas.Nat.{and_mask, xor_block, pow_pos, pow-add}
use Rattle.cheri_model.specs.declared.width.Width.TheVariants.{Byte, Half, Word}
use Rattle.cheri_model.specs.instructions.Integers.{sum, shifted_left, shifted_right}
use Rattle.cheri_model.specs.instructions.Integers.{shifted_arithmetic, word_sum, extended_word}
use Rattle.cheri_model.specs.instructions.Integers.{extended}

-- ---- shifts to the left and back

-- a number of w bits in the high ones, where u is 2^(64-w), and back with its sign
back_below : (r : ℕ) → r < 128 →
    cast_unsigned w64 (int_shr (cast_signed w64 (r * 72057594037927936)) 56) ≡ r
back_below r below = rw (to_z_pos w64 (r * 72057594037927936) (omega arith)) (omega arith)

back_above : (r : ℕ) → 128 ≤ r → r < 256 →
    cast_unsigned w64 (int_shr (cast_signed w64 (r * 72057594037927936)) 56) ≡ 2 ^ 64 - 256 + r
back_above r from below =
    let high : 2 ^ 63 ≤ r * 72057594037927936 = omega arith in
    rw (le-ltb _ _ high) (omega arith)

byte_below : (r : ℕ) → r < 128 → cast_unsigned w64 (cast_signed w8 r) ≡ r
byte_below r below = ap (cast_unsigned w64) (to_z_pos w8 r below)

byte_above : (r : ℕ) → 128 ≤ r → r < 256 → cast_unsigned w64 (cast_signed w8 r) ≡ 2 ^ 64 - 256 + r
byte_above r from below = rw (le-ltb _ _ from) (omega arith)

pub byte_extended : (a : ℕ) → shifted_arithmetic (shifted_left a 56) 56 ≡ extended Byte a
unfolding shifted_arithmetic shifted_left extended
byte_extended a =
    let placed : a * 2 ^ (56 % 64) % 2 ^ 64 ≡ a % 256 * 72057594037927936 = omega arith in
    rw placed (elim (cases_lt (a % 256) 128) [
      | inl h ↦ back_below (a % 256) h ∙ sym (byte_below (a % 256) h)
      | inr h ↦ back_above (a % 256) h (omega arith) ∙ sym (byte_above (a % 256) h (omega arith))
    ])

half_back_below : (r : ℕ) → r < 32768 →
    cast_unsigned w64 (int_shr (cast_signed w64 (r * 281474976710656)) 48) ≡ r
half_back_below r below = rw (to_z_pos w64 (r * 281474976710656) (omega arith)) (omega arith)

half_back_above : (r : ℕ) → 32768 ≤ r → r < 65536 →
    cast_unsigned w64 (int_shr (cast_signed w64 (r * 281474976710656)) 48) ≡ 2 ^ 64 - 65536 + r
half_back_above r from below =
    let high : 2 ^ 63 ≤ r * 281474976710656 = omega arith in
    rw (le-ltb _ _ high) (omega arith)

half_below : (r : ℕ) → r < 32768 → cast_unsigned w64 (cast_signed w16 r) ≡ r
half_below r below = ap (cast_unsigned w64) (to_z_pos w16 r below)

half_above : (r : ℕ) → 32768 ≤ r → r < 65536 →
    cast_unsigned w64 (cast_signed w16 r) ≡ 2 ^ 64 - 65536 + r
half_above r from below = rw (le-ltb _ _ from) (omega arith)

pub half_extended : (a : ℕ) → shifted_arithmetic (shifted_left a 48) 48 ≡ extended Half a
unfolding shifted_arithmetic shifted_left extended
half_extended a =
    let placed : a * 2 ^ (48 % 64) % 2 ^ 64 ≡ a % 65536 * 281474976710656 = omega arith in
    rw placed (elim (cases_lt (a % 65536) 32768) [
      | inl h ↦ half_back_below (a % 65536) h ∙ sym (half_below (a % 65536) h)
      | inr h ↦ half_back_above (a % 65536) h (omega arith)
          ∙ sym (half_above (a % 65536) h (omega arith))
    ])

pub half_cut : (a : ℕ) → shifted_right (shifted_left a 48) 48 ≡ a % 2 ^ 16
unfolding shifted_right shifted_left
half_cut a = omega arith

pub word_cut : (a : ℕ) → shifted_right (shifted_left a 32) 32 ≡ a % 2 ^ 32
unfolding shifted_right shifted_left
word_cut a = omega arith

-- ---- others

pub word_extended : (a : ℕ) → word_sum a 0 ≡ extended Word a
unfolding word_sum extended_word extended
word_extended a =
    let low : (a % 2 ^ 32 + 0 % 2 ^ 32) % 2 ^ 32 ≡ a % 2 ^ 32 = omega arith in
    rw low refl

pub byte_cut : (a : ℕ) → bit_and a 255 ≡ a % 2 ^ 8
byte_cut a = and_mask a 8

pub same_sum : (a : ℕ) → a < 2 ^ 64 → sum a 0 ≡ a
unfolding sum
same_sum a below = omega arith

-- all of k digits turned, the highest first
turned : (k n : ℕ) → n < 2 ^ k → bit_xor n (2 ^ k - 1) ≡ 2 ^ k - 1 - n
turned zero n below =
    let none : n ≡ 0 = omega arith in
    ap (λ (x : ℕ). bit_xor x 0) none ∙ ap (λ (x : ℕ). 0 - x) (sym none)
turned (suc k) n below =
    let some = pow_pos k in
    let place : suc k ≡ 1 + k = omega arith in
    let double : 2 ^ suc k ≡ 2 * 2 ^ k = ap (λ (e : ℕ). 2 ^ e) place ∙ pow-add 2 1 k in
    let ones : 2 ^ suc k - 1 ≡ 1 * 2 ^ k + (2 ^ k - 1) = omega arith in
    let less : 2 ^ k - 1 < 2 ^ k = omega arith in
    ap (bit_xor n) ones ∙ elim (cases_lt n (2 ^ k)) [
      | inl h ↦
          let is : n ≡ 0 * 2 ^ k + n = omega arith in
          ap (λ (x : ℕ). bit_xor x (1 * 2 ^ k + (2 ^ k - 1))) is
          ∙ xor_block k 0 1 n (2 ^ k - 1) h less
          ∙ ap (λ (x : ℕ). 1 * 2 ^ k + x) (turned k n h) ∙ omega arith
      | inr h ↦
          let is : n ≡ 1 * 2 ^ k + (n - 2 ^ k) = omega arith in
          let rest : n - 2 ^ k < 2 ^ k = omega arith in
          ap (λ (x : ℕ). bit_xor x (1 * 2 ^ k + (2 ^ k - 1))) is
          ∙ xor_block k 1 1 (n - 2 ^ k) (2 ^ k - 1) rest less
          ∙ ap (λ (x : ℕ). 0 * 2 ^ k + x) (turned k (n - 2 ^ k) rest) ∙ omega arith
    ]

pub complement : (a : ℕ) → a < 2 ^ 64 → bit_xor a 18446744073709551615 ≡ 2 ^ 64 - 1 - a
complement a below = turned 64 a below

pub is_zero : (a : ℕ) → nat_lt a 1 ≡ (a == 0)
is_zero a =
    elim (cases_lt a 1) [
      | inl h ↦ lt-ltb a 1 h ∙ sym (eq-eqb a 0 (omega arith))
      | inr h ↦ le-ltb a 1 h ∙ sym (ne_eqb a 0 (λ e. omega arith))
    ]

pub not_zero : (a : ℕ) → nat_lt 0 a ≡ not (a == 0)
not_zero a =
    elim (cases_lt 0 a) [
      | inl h ↦ lt-ltb 0 a h ∙ sym (ap not (ne_eqb a 0 (λ e. omega arith)))
      | inr h ↦ le-ltb 0 a h ∙ sym (ap not (eq-eqb a 0 (omega arith)))
    ]
