-- Digits of longer and shorter numbers than a word, and of words and bounds.
use Rattle.std.proofs.Common.{◌≡◌, ℕ, ◌+◌, ◌-◌, ◌^◌, drop-drop, drop, ◌/◌, ◌%◌, ◌≤◌, List, [], ◌∷◌, ◌++◌, refl, sym, append-nil, length, length-append, arith, take}
use Rattle.std.proofs.lemmas.List.{take_all}
use Rattle.std.proofs.Math.ListN.{drop_of_length-le}
use Rattle.std.specs.Char.{digit_char}
use Rattle.std.specs.Str.{IsAscii}
use Rattle.std.proofs.lemmas.Str.{IsAscii-append}
use Rattle.std.proofs.lemmas.Str.Ascii.{IsAscii-cons}
use Rattle.cap_model.specs.values.Capability.{Capability}
use Rattle.report_lines.specs.ValueText.{bounds_text, hex_text, word_text}
use Rattle.text_numbers.proofs.HexDigits.{low_part, first_digit, last_digits, digits_length, digits_ascii}

-- seventeen digits, of which the last sixteen are those of a word
pub top_digits : (n digit masked first : ℕ) (rest : List ℕ) → digit ≡ n / 2 ^ 64 % 16 → masked ≡ n % 2 ^ 64 →
    first ≡ digit_char digit → rest ≡ hex_text 16 masked → first ∷ (rest ++ []) ≡ hex_text 17 n
top_digits n digit masked first rest digit_is masked_is first_is rest_is =
    rw (append-nil, first_is, digit_is, rest_is, masked_is, low_part 16 64 n refl) (sym (first_digit 16 64 n refl))

-- the last digits at the end of a buffer
pub end_digits : (buffer : List ℕ) (width start n : ℕ) → width ≤ 17 → start ≡ 40 - width → drop 23 buffer ≡ hex_text 17 n →
    drop start buffer ≡ hex_text width n
end_digits buffer width start n within is written =
    let split : start ≡ 23 + (17 - width) = omega arith in
    rw (split, ← drop-drop, written) (last_digits (17 - width) width 17 n (omega arith))

-- ---- words and bounds

pub word_ascii : (bits : ℕ) → IsAscii (word_text bits)
word_ascii bits =
    IsAscii-append (hex_text 16 (bits / 2 ^ 64)) (95 ∷ hex_text 16 (bits % 2 ^ 64)) (digits_ascii 16 (bits / 2 ^ 64))
    (IsAscii-cons 95 (hex_text 16 (bits % 2 ^ 64)) (omega arith) (digits_ascii 16 (bits % 2 ^ 64)))

pub word_length : (bits : ℕ) → length (word_text bits) ≡ 33
word_length bits =
    omega (
      arith,
      length-append (hex_text 16 (bits / 2 ^ 64)) (95 ∷ hex_text 16 (bits % 2 ^ 64)),
      digits_length 16 (bits / 2 ^ 64),
      digits_length 16 (bits % 2 ^ 64),
    )

pub bounds_ascii : (parts : Capability) → IsAscii (bounds_text parts)
bounds_ascii parts =
    IsAscii-append (hex_text 16 parts.base) (32 ∷ (hex_text 17 parts.top ++ 32 ∷ hex_text 5 parts.perms)) (digits_ascii 16 parts.base)
    (IsAscii-cons 32 (hex_text 17 parts.top ++ 32 ∷ hex_text 5 parts.perms) (omega arith)
    (IsAscii-append (hex_text 17 parts.top) (32 ∷ hex_text 5 parts.perms) (digits_ascii 17 parts.top)
    (IsAscii-cons 32 (hex_text 5 parts.perms) (omega arith) (digits_ascii 5 parts.perms))))

pub bounds_length : (parts : Capability) → length (bounds_text parts) ≡ 40
bounds_length parts =
    omega (
      arith,
      length-append (hex_text 16 parts.base) (32 ∷ (hex_text 17 parts.top ++ 32 ∷ hex_text 5 parts.perms)),
      length-append (hex_text 17 parts.top) (32 ∷ hex_text 5 parts.perms),
      digits_length 16 parts.base,
      digits_length 17 parts.top,
      digits_length 5 parts.perms,
    )

-- the last five digits of a word, and what follows the last digit in a buffer
pub five_digits : (n : ℕ) → take 5 (drop 11 (hex_text 16 n)) ≡ hex_text 5 n
five_digits n =
    let short : length (hex_text 5 n) ≤ 5 = omega (arith, digits_length 5 n) in
    rw (last_digits 11 5 16 n refl) (take_all 5 (hex_text 5 n) short)

pub no_more : (buffer : List ℕ) → length buffer ≡ 40 → drop 40 buffer ≡ []
no_more buffer long =
    let within : length buffer ≤ 40 = omega (arith, long) in
    drop_of_length-le buffer within
