-- Digits of a number in hexadecimal: those of a word, as the lanes of a vector, and those of shorter numbers.
use Rattle.std.proofs.Common.{◌≡◌, ℕ, zero, suc, ◌+◌, ◌*◌, ◌^◌, drop, ◌/◌, ◌%◌, ◌<◌, cond, nat_lt, List, [], ◌∷◌, ◌++◌, refl, sym, ap, ◌∙◌, inl, inr, append-nil, length, length-append, append_assoc, arith}
use Rattle.std.proofs.lemmas.Nat.{mod-pow-add, field_of, shr-shr}
use Rattle.std.proofs.lemmas.Bool.{cases_lt, lt-ltb, le-ltb}
use Rattle.std.specs.Char.{digit_char}
use Rattle.std.specs.Str.{IsAscii}
use Rattle.std.proofs.lemmas.Str.{IsAscii-append}
use Rattle.std.proofs.lemmas.Str.Ascii.{IsAscii-nil, IsAscii-cons}
use Rattle.std.proofs.lemmas.Bool.Decides.{nat_tests}
use lib.Lanes.{top}
use Rattle.text_numbers.specs.Hexadecimal.{hex_text}

-- what the lane of a digit becomes
abbrev pub sign : ℕ → ℕ
sign d = (cond (top 7 (cond (nat_lt 9 d) 255 0)) 87 48 + d) % 256

sign_is : (d : ℕ) → d < 16 → sign d ≡ digit_char d
sign_is d small = elim (cases_lt d 10) [
  | inl below ↦ rw (lt-ltb d 10 below, le-ltb 9 d (omega arith)) (omega arith)
  | inr above ↦ rw (le-ltb d 10 above, lt-ltb 9 d (omega arith)) (omega arith)
]

-- the digits of a number's lowest byte are its last two
low_digits : (n : ℕ) (rest : List ℕ) →
    sign (n % 256 / 16) ∷ sign (n % 256 % 16) ∷ rest ≡ digit_char (n / 16 % 16) ∷ digit_char (n % 16) ∷ rest
low_digits n rest =
    let upper : sign (n % 256 / 16) ≡ digit_char (n / 16 % 16) =
    sign_is (n % 256 / 16) (omega arith) ∙ ap digit_char (omega arith) in
    let lower : sign (n % 256 % 16) ≡ digit_char (n % 16) =
    sign_is (n % 256 % 16) (omega arith) ∙ ap digit_char (omega arith) in
    λ i. upper i ∷ lower i ∷ rest

two_more : (width n : ℕ) (rest : List ℕ) →
    hex_text width (n / 256) ++ sign (n % 256 / 16) ∷ sign (n % 256 % 16) ∷ rest ≡ hex_text (suc (suc width)) n ++ rest
unfolding hex_text
two_more width n rest =
    let same : n / 256 ≡ n / 16 / 16 = omega arith in
    ap (λ l. hex_text width (n / 256) ++ l) (low_digits n rest)
    ∙ ap (λ m. hex_text width m ++ digit_char (n / 16 % 16) ∷ digit_char (n % 16) ∷ rest) same
    ∙ sym (append_assoc (hex_text width (n / 16 / 16)) (digit_char (n / 16 % 16) ∷ []) (digit_char (n % 16) ∷ rest))
    ∙ sym (append_assoc (hex_text width (n / 16 / 16) ++ digit_char (n / 16 % 16) ∷ []) (digit_char (n % 16) ∷ []) rest)

-- the lanes of this many bytes, of which the first is the highest
abbrev lanes : ℕ → ℕ → List ℕ → List ℕ
lanes zero n rest = rest
lanes (suc more) n rest = lanes more (n / 256) (sign (n % 256 / 16) ∷ sign (n % 256 % 16) ∷ rest)

abbrev twice : ℕ → ℕ
twice zero = zero
twice (suc more) = suc (suc (twice more))

bytes_are : (count n : ℕ) (rest : List ℕ) → lanes count n rest ≡ hex_text (twice count) n ++ rest
unfolding hex_text
bytes_are zero n rest = refl
bytes_are (suc more) n rest =
    bytes_are more (n / 256) (sign (n % 256 / 16) ∷ sign (n % 256 % 16) ∷ rest) ∙ two_more (twice more) n rest

pub lanes_are : (n : ℕ) → lanes 8 (n + 0) [] ≡ hex_text 16 n
lanes_are n =
    let same : n + 0 ≡ n = omega arith in
    bytes_are 8 (n + 0) [] ∙ append-nil (hex_text 16 (n + 0)) ∙ ap (hex_text 16) same

-- a number has the lowest digits of its remainder
pub low_part : (width bits n : ℕ) → bits ≡ 4 * width → hex_text width (n % 2 ^ bits) ≡ hex_text width n
unfolding hex_text
low_part zero bits n is = refl
low_part (suc width) bits n is =
    let more : bits ≡ 4 * width + 4 = omega arith in
    let upper : n % 2 ^ bits / 16 ≡ n / 16 % 2 ^ (4 * width) = rw more (field_of n (4 * width) 4) in
    let split : n % 2 ^ bits ≡ (n / 2 ^ 4 % 2 ^ (4 * width)) * 2 ^ 4 + n % 2 ^ 4 = rw more (mod-pow-add n (4 * width) 4) in
    let lower : n % 2 ^ bits % 16 ≡ n % 16 = omega (arith, split) in
    rw (upper, lower, low_part width (4 * width) (n / 16) refl) refl

-- the first of a number's digits, and the others
pub first_digit : (width bits n : ℕ) → bits ≡ 4 * width →
    hex_text (suc width) n ≡ digit_char (n / 2 ^ bits % 16) ∷ hex_text width n
unfolding hex_text
first_digit zero bits n is =
    let no_bits : bits ≡ 0 = omega arith in
    let none : n / 2 ^ bits ≡ n = rw no_bits (omega arith) in
    rw none refl
first_digit (suc width) bits n is =
    let more : bits ≡ 4 + 4 * width = omega arith in
    let same : n / 16 / 2 ^ (4 * width) ≡ n / 2 ^ bits = rw more (shr-shr n 4 (4 * width)) in
    rw (first_digit width (4 * width) (n / 16) refl, same) refl

-- the last of them
pub last_digits : (skipped width all n : ℕ) → all ≡ skipped + width → drop skipped (hex_text all n) ≡ hex_text width n
last_digits zero width all n is = let same : all ≡ width = omega arith in rw same refl
last_digits (suc skipped) width zero n is = absurd (omega arith)
last_digits (suc skipped) width (suc all) n is =
    rw (first_digit all (4 * all) n refl) (last_digits skipped width all n (omega arith))

-- how many they are, and which bytes
pub digits_length : (width n : ℕ) → length (hex_text width n) ≡ width
unfolding hex_text
digits_length zero n = refl
digits_length (suc width) n =
    omega (arith, length-append (hex_text width (n / 16)) (digit_char (n % 16) ∷ []), digits_length width (n / 16))

digit_small : (d : ℕ) → d < 16 → digit_char d < 128
digit_small d small = grind (arith, nat_tests)

pub digits_ascii : (width n : ℕ) → IsAscii (hex_text width n)
unfolding hex_text
digits_ascii zero n = IsAscii-nil
digits_ascii (suc width) n =
    IsAscii-append (hex_text width (n / 16)) (digit_char (n % 16) ∷ []) (digits_ascii width (n / 16))
    (IsAscii-cons (digit_char (n % 16)) [] (digit_small (n % 16) (omega arith)) IsAscii-nil)
