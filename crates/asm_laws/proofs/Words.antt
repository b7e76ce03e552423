-- Numbers of 32 bits, as `lui` and `addiw` make them of their parts.
use Rattle.std.proofs.Common.{◌≡◌, ◌⊎◌, inl, inr, refl, ap, ◌∙◌, ℕ, ◌+◌, ◌*◌, ◌/◌, ◌%◌, ◌^◌, ◌<◌}
use Rattle.std.proofs.Common.{◌≤◌, arith}
use Rattle.std.specs.Int.{w32, w64, cast_signed, cast_unsigned}
use Rattle.std.proofs.lemmas.Bool.{cases_lt, lt-ltb, le-ltb}
use Rattle.std.proofs.lemmas.Int.{to_z_pos}
use Rattle.cheri_model.specs.instructions.Integers.{extended_word, word_sum, upper_immediate}
use Rattle.asm_expansions.specs.Immediates.{bits_of, low, high_bits, signed_rest}

-- the bits of a number of 12 bits
pub rest_bits : (r : ℕ) → r < 4096 →
    ((r < 2048) × (cast_unsigned w64 (signed_rest r) ≡ r)) ⊎ ((2048 ≤ r) × (cast_unsigned w64 (signed_rest r) + 4096 ≡ 2 ^ 64 + r))
rest_bits r below =
    elim (cases_lt r 2048) [
      | inl h ↦ inl (h, rw (lt-ltb r 2048 h) refl)
      | inr h ↦ inr (h, rw (le-ltb r 2048 h) (omega arith))
    ]

pub extended_below : (y : ℕ) → y < 2 ^ 31 → cast_unsigned w64 (cast_signed w32 y) ≡ y
extended_below y h = ap (cast_unsigned w64) (to_z_pos w32 y h)

pub extended_above : (y : ℕ) → 2 ^ 31 ≤ y → y < 2 ^ 32 →
    cast_unsigned w64 (cast_signed w32 y) + 2 ^ 32 ≡ 2 ^ 64 + y
extended_above y h below = rw (le-ltb _ _ h) (omega arith)

-- the bits of a number of 32 bits with a sign
abbrev pub IsWordBits : ℕ → Type 0
IsWordBits n = (n < 2 ^ 31) ⊎ ((2 ^ 64 ≤ n + 2 ^ 31) × (n < 2 ^ 64))

-- a number of 32 bits is what is extended of its low ones
pub extended_is : (x n : ℕ) → x % 2 ^ 32 ≡ n % 2 ^ 32 → IsWordBits n → extended_word x ≡ n
unfolding extended_word
extended_is x n same (inl h) = rw same (extended_below (n % 2 ^ 32) (omega arith) ∙ omega arith)
extended_is x n same (inr h) =
    let up = extended_above (n % 2 ^ 32) (omega arith) (omega arith) in
    rw same (omega arith)

pub extended_fits : (x : ℕ) → extended_word x < 2 ^ 64
unfolding extended_word
extended_fits x =
    elim (cases_lt (x % 2 ^ 32) (2 ^ 31)) [
      | inl h ↦ let is = extended_below (x % 2 ^ 32) h in omega arith
      | inr h ↦ let is = extended_above (x % 2 ^ 32) h (omega arith) in omega arith
    ]

-- what an extension has in its low bits
pub extended_mod : (x : ℕ) → extended_word x % 2 ^ 32 ≡ x % 2 ^ 32
unfolding extended_word
extended_mod x =
    elim (cases_lt (x % 2 ^ 32) (2 ^ 31)) [
      | inl h ↦ let is = extended_below (x % 2 ^ 32) h in omega arith
      | inr h ↦ let is = extended_above (x % 2 ^ 32) h (omega arith) in omega arith
    ]

-- ---- the parts of a number

low_alone_below : (n r : ℕ) → (n + 2048) / 4096 % 2 ^ 20 ≡ 0 → r ≡ n % 4096 → n % 4096 < 2048 →
    (0 % 2 ^ 32 + r % 2 ^ 32) % 2 ^ 32 ≡ n % 2 ^ 32
low_alone_below n r none is from = omega arith

low_alone_above : (n r : ℕ) → (n + 2048) / 4096 % 2 ^ 20 ≡ 0 → 2048 ≤ n % 4096 →
    r + 4096 ≡ 2 ^ 64 + n % 4096 → (0 % 2 ^ 32 + r % 2 ^ 32) % 2 ^ 32 ≡ n % 2 ^ 32
low_alone_above n r none from is = omega arith

upper_mod : (n : ℕ) → upper_immediate (high_bits n) % 2 ^ 32 ≡ (n + 2048) / 4096 % 2 ^ 20 * 4096
unfolding upper_immediate high_bits
upper_mod n = extended_mod _ ∙ omega arith

sum_below : (n u r : ℕ) → u % 2 ^ 32 ≡ (n + 2048) / 4096 % 2 ^ 20 * 4096 → n % 4096 < 2048 →
    r ≡ n % 4096 → (u % 2 ^ 32 + r % 2 ^ 32) % 2 ^ 32 ≡ n % 2 ^ 32
sum_below n u r high from is = omega arith

sum_above : (n u r : ℕ) → u % 2 ^ 32 ≡ (n + 2048) / 4096 % 2 ^ 20 * 4096 → 2048 ≤ n % 4096 →
    r + 4096 ≡ 2 ^ 64 + n % 4096 → (u % 2 ^ 32 + r % 2 ^ 32) % 2 ^ 32 ≡ n % 2 ^ 32
sum_above n u r high from is = omega arith

-- the low part's bits
pub low_cases : (n : ℕ) →
    ((n % 4096 < 2048) × (bits_of (low n) ≡ n % 4096)) ⊎ ((2048 ≤ n % 4096) × (bits_of (low n) + 4096 ≡ 2 ^ 64 + n % 4096))
unfolding low
low_cases n = rest_bits (n % 4096) (omega arith)

-- `addiw` of the low part alone
pub low_alone : (n : ℕ) → IsWordBits n → high_bits n ≡ 0 → word_sum 0 (bits_of (low n)) ≡ n
unfolding word_sum high_bits
low_alone n is none =
    elim (low_cases n) [
      | inl h ↦ extended_is _ n (low_alone_below n _ none h.1 h.0) is
      | inr h ↦ extended_is _ n (low_alone_above n _ none h.0 h.1) is
    ]

-- `lui` alone
pub high_alone : (n : ℕ) → IsWordBits n → n % 4096 ≡ 0 → upper_immediate (high_bits n) ≡ n
unfolding upper_immediate high_bits
high_alone n is none = extended_is _ n (omega arith) is

-- `lui`, and then `addiw`
pub both_parts : (n : ℕ) → IsWordBits n →
    word_sum (upper_immediate (high_bits n)) (bits_of (low n)) ≡ n
unfolding word_sum
both_parts n is =
    elim (low_cases n) [
      | inl h ↦ extended_is _ n (sum_below n _ _ (upper_mod n) h.0 h.1) is
      | inr h ↦ extended_is _ n (sum_above n _ _ (upper_mod n) h.0 h.1) is
    ]
