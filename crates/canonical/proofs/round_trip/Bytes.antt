-- Words as bytes: the bytes of a granule and the hexadecimal digits of a register's word read back.
use Rattle.std.proofs.Common.{◌≡◌, ℕ, zero, suc, ◌+◌, ◌*◌, ◌/◌, ◌%◌, ◌^◌, ◌<◌, ◌==◌, ◌&&◌, Bool, true, false, List, [], ◌∷◌, ◌++◌, length, Some, Ok, refl, sym, ap, ◌∙◌, arith}
use Rattle.std.specs.Prelude.{slice_index}
use Rattle.std.specs.Int.{to_le_bytes, to_be_bytes, bytes_low_first, bytes_high_first, byte_at, w64}
use Rattle.std.specs.Char.{digit_value}
use Rattle.std.specs.Fmt.{digits}
use Rattle.std.specs.List.{list_all}
use Rattle.std.specs.Str.Parse.{AllDigits, IsNumeral, digits_value, digits_value_after}
use Rattle.std.proofs.lemmas.Bool.Decides.{nat_tests}
use Rattle.std.proofs.lemmas.Fmt.{digits_is_IsNumeral}
use Rattle.std.proofs.Math.Nat.{pow-suc, div-div-eq-div-mul}
use Rattle.hex.specs.Hex.{encode_with, lower_digits, encode_lower, decode_of, IsBytes}
use Rattle.hex.proofs.HexLemmas.{decode_of-encode_lower}
use Rattle.grammar.specs.Tokens.{is_blank, is_filled}
use Rattle.grammar.specs.Numerals.{number_of}
use Rattle.canonical.specs.Canon.{memory_text, word_text}
use Rattle.grammar.proofs.PermissionTexts.{first, second}
use Rattle.canonical.proofs.round_trip.Words.{is_open, is_word_byte, IsWord, both, all_joined, filled_cons}
use Rattle.canonical.proofs.round_trip.Numbers.{digit_bytes, number_where, after_0x, hex_word_of}
use Rattle.canonical.proofs.round_trip.Operands.{all_below, at_below}

-- the digits that are written
is_digit : ℕ → Bool
is_digit d = is_word_byte (slice_index lower_digits d) && (digit_value (slice_index lower_digits d) == d)

all_are_digits : all_below is_digit 16 ≡ true
unfolding all_below is_digit is_word_byte is_open is_blank
all_are_digits = refl

digit_word : (d : ℕ) → d < 16 → is_word_byte (slice_index lower_digits d) ≡ true
unfolding is_digit
digit_word d h = first _ _ (at_below is_digit 16 d h all_are_digits)

digit_back : (d : ℕ) → d < 16 → digit_value (slice_index lower_digits d) ≡ d
unfolding is_digit
digit_back d h =
    let t : (digit_value (slice_index lower_digits d) == d) ≡ true = second (is_word_byte (slice_index lower_digits d)) _ (at_below is_digit 16 d h all_are_digits) in
    same_where (digit_value (slice_index lower_digits d)) d t
  where
    same_where : (a b : ℕ) → (a == b) ≡ true → a ≡ b
    same_where a b e = grind (arith, nat_tests)

abbrev pub AllBytes : List ℕ → Type 0
AllBytes [] = Unit {0}
AllBytes (b ∷ bs) = (b < 256) × AllBytes bs

bytes_joined : (xs ys : List ℕ) → AllBytes xs → AllBytes ys → AllBytes (xs ++ ys)
bytes_joined [] ys h k = k
bytes_joined (x ∷ xs) ys h k = (h.0, bytes_joined xs ys h.1 k)

are_bytes : (xs : List ℕ) → AllBytes xs → IsBytes xs
are_bytes [] h i = omega arith
are_bytes (x ∷ xs) h zero = h.0
are_bytes (x ∷ xs) h (suc i) = are_bytes xs h.1 i

byte_is : (i n : ℕ) → byte_at i n ≡ n / 256 ^ i % 256
byte_is zero n = omega arith
byte_is (suc i) n = refl

byte_below : (i n : ℕ) → byte_at i n < 256
byte_below i n = rw (byte_is i n) (omega arith)

low_are_bytes : (i k n : ℕ) → AllBytes (bytes_low_first i k n)
low_are_bytes i zero n = tt
low_are_bytes i (suc k) n = (byte_below i n, low_are_bytes (suc i) k n)

high_are_bytes : (k n : ℕ) → AllBytes (bytes_high_first k n)
high_are_bytes zero n = tt
high_are_bytes (suc k) n = (byte_below k n, high_are_bytes k n)

-- the number of bytes, the least significant first
unfoldable pub le_value : List ℕ → ℕ
le_value [] = 0
le_value (b ∷ bs) = b + 256 * le_value bs

next_byte : (i n : ℕ) → n / 256 ^ suc i ≡ n / 256 ^ i / 256
next_byte i n = ap (λ p. n / p) (pow-suc 256 i) ∙ sym (div-div-eq-div-mul n (256 ^ i) 256)

low_value : (i k m n : ℕ) → i + k ≡ m → n / 256 ^ m ≡ 0 → le_value (bytes_low_first i k n) ≡ n / 256 ^ i
unfolding le_value
low_value i zero m n e h = let same : m ≡ i = omega arith in sym h ∙ ap (λ j. n / 256 ^ j) same
low_value i (suc k) m n e h =
    let rest : le_value (bytes_low_first (suc i) k n) ≡ n / 256 ^ suc i = low_value (suc i) k m n (omega arith) h in
    let here : byte_at i n ≡ n / 256 ^ i % 256 = byte_is i n in
    let step : n / 256 ^ suc i ≡ n / 256 ^ i / 256 = next_byte i n in
    rw (rest, here, step) (whole (n / 256 ^ i))
  where
    whole : (q : ℕ) → q % 256 + 256 * (q / 256) ≡ q
    whole q = omega arith

value_joined : (x0 x1 x2 x3 x4 x5 x6 x7 : ℕ) (ys : List ℕ) (a b : ℕ) → le_value (x0 ∷ x1 ∷ x2 ∷ x3 ∷ x4 ∷ x5 ∷ x6 ∷ x7 ∷ []) ≡ a → le_value ys ≡ b
    → le_value (x0 ∷ x1 ∷ x2 ∷ x3 ∷ x4 ∷ x5 ∷ x6 ∷ x7 ∷ ys) ≡ a + 2 ^ 64 * b
unfolding le_value
value_joined x0 x1 x2 x3 x4 x5 x6 x7 ys a b f g = omega (arith, f, g)

module _ (word : ℕ) (low : word < 2 ^ 128) where
  -- a word's bytes in memory
  abbrev pub granule_bytes : List ℕ
  granule_bytes = to_le_bytes w64 (word % 2 ^ 64) ++ to_le_bytes w64 (word / 2 ^ 64)

  pub granule_are_bytes : AllBytes granule_bytes
  granule_are_bytes = bytes_joined (bytes_low_first 0 8 (word % 2 ^ 64)) (bytes_low_first 0 8 (word / 2 ^ 64)) (low_are_bytes 0 8 (word % 2 ^ 64)) (low_are_bytes 0 8 (word / 2 ^ 64))

  lower_value : le_value (to_le_bytes w64 (word % 2 ^ 64)) ≡ word % 2 ^ 64
  lower_value = low_value 0 8 8 (word % 2 ^ 64) refl (omega arith) ∙ omega arith

  upper_value : le_value (to_le_bytes w64 (word / 2 ^ 64)) ≡ word / 2 ^ 64
  upper_value = low_value 0 8 8 (word / 2 ^ 64) refl (omega arith) ∙ omega arith

  pub granule_value : le_value granule_bytes ≡ word
  granule_value =
      let both_halves : le_value granule_bytes ≡ word % 2 ^ 64 + 2 ^ 64 * (word / 2 ^ 64) = value_joined _ _ _ _ _ _ _ _ (to_le_bytes w64 (word / 2 ^ 64)) _ _ lower_value upper_value in
      both_halves ∙ omega arith

encoded_joined : (xs ys : List ℕ) → encode_lower (xs ++ ys) ≡ encode_lower xs ++ encode_lower ys
unfolding encode_with
encoded_joined [] ys = refl
encoded_joined (x ∷ xs) ys = ap (λ l. slice_index lower_digits (x / 16) ∷ slice_index lower_digits (x % 16) ∷ l) (encoded_joined xs ys)

encoded_bytes : (xs : List ℕ) → AllBytes xs → list_all is_word_byte (encode_lower xs) ≡ true
unfolding encode_with
encoded_bytes [] h = refl
encoded_bytes (x ∷ xs) h =
    let below : x < 256 = h.0 in
    both _ _ (digit_word (x / 16) (omega arith)) (both _ _ (digit_word (x % 16) (omega arith)) (encoded_bytes xs h.1))

filled_encoded : (b : ℕ) (bs ys : List ℕ) → is_filled (encode_lower (b ∷ bs) ++ ys) ≡ true
unfolding encode_with
filled_encoded b bs ys = filled_cons (slice_index lower_digits (b / 16)) (slice_index lower_digits (b % 16) ∷ (encode_lower bs ++ ys))

-- the number of bytes after others, the most significant first
be_after : ℕ → List ℕ → ℕ
be_after acc [] = acc
be_after acc (b ∷ bs) = be_after (acc * 256 + b) bs

high_value : (k n acc : ℕ) → acc ≡ n / 256 ^ k → be_after acc (bytes_high_first k n) ≡ n
unfolding be_after
high_value zero n acc e = e ∙ omega arith
high_value (suc k) n acc e =
    let here : byte_at k n ≡ n / 256 ^ k % 256 = byte_is k n in
    let step : n / 256 ^ suc k ≡ n / 256 ^ k / 256 = next_byte k n in
    high_value k n (acc * 256 + byte_at k n) (rw (e, here, step) (whole (n / 256 ^ k)))
  where
    whole : (q : ℕ) → q / 256 * 256 + q % 256 ≡ q
    whole q = omega arith

-- the digits of bytes have their value
two_digits : (acc high low h l : ℕ) (rest : List ℕ) → digit_value high ≡ h → digit_value low ≡ l → digits_value_after 16 acc (high ∷ low ∷ rest) ≡ digits_value_after 16 ((acc * 16 + h) * 16 + l) rest
two_digits acc high low h l rest e f =
    ap (λ x. digits_value_after 16 ((acc * 16 + x) * 16 + digit_value low) rest) e ∙ ap (λ x. digits_value_after 16 ((acc * 16 + h) * 16 + x) rest) f

digits_of_bytes : (acc : ℕ) (bs : List ℕ) → AllBytes bs → digits_value_after 16 acc (encode_lower bs) ≡ be_after acc bs
unfolding encode_with be_after
digits_of_bytes acc [] h = refl
digits_of_bytes acc (b ∷ bs) h =
    let below : b < 256 = h.0 in
    two_digits acc (slice_index lower_digits (b / 16)) (slice_index lower_digits (b % 16)) (b / 16) (b % 16) (encode_lower bs) (digit_back (b / 16) (omega arith)) (digit_back (b % 16) (omega arith))
    ∙ ap (λ n. digits_value_after 16 n (encode_lower bs)) (one_byte acc b) ∙ digits_of_bytes (acc * 256 + b) bs h.1
  where
    one_byte : (acc b : ℕ) → (acc * 16 + b / 16) * 16 + b % 16 ≡ acc * 256 + b
    one_byte acc b = omega arith

bytes_are_digits : (bs : List ℕ) → AllBytes bs → AllDigits 16 (encode_lower bs)
unfolding encode_with
bytes_are_digits [] h = tt
bytes_are_digits (b ∷ bs) h =
    let below : b < 256 = h.0 in
    let high : digit_value (slice_index lower_digits (b / 16)) ≡ b / 16 = digit_back (b / 16) (omega arith) in
    let low : digit_value (slice_index lower_digits (b % 16)) ≡ b % 16 = digit_back (b % 16) (omega arith) in
    (rw high (omega arith), (rw low (omega arith), bytes_are_digits bs h.1))

value_after_joined : (acc : ℕ) (xs ys : List ℕ) → digits_value_after 16 acc (xs ++ ys) ≡ digits_value_after 16 (digits_value_after 16 acc xs) ys
value_after_joined acc [] ys = refl
value_after_joined acc (x ∷ xs) ys = value_after_joined (acc * 16 + digit_value x) xs ys

digits_joined : (xs ys : List ℕ) → AllDigits 16 xs → AllDigits 16 ys → AllDigits 16 (xs ++ ys)
digits_joined [] ys h k = k
digits_joined (x ∷ xs) ys h k = (h.0, digits_joined xs ys h.1 k)

some_joined : (xs ys : List ℕ) → 0 < length xs → 0 < length (xs ++ ys)
some_joined [] ys h = absurd (omega arith)
some_joined (x ∷ xs) ys h = omega arith

module _ (word : ℕ) (low : word < 2 ^ 128) where
  -- a granule's text is of digits, and decodes to the bytes of the word
  pub memory_decodes : decode_of (memory_text word) ≡ Ok (granule_bytes word low)
  memory_decodes =
      ap decode_of (sym (encoded_joined (to_le_bytes w64 (word % 2 ^ 64)) (to_le_bytes w64 (word / 2 ^ 64))))
      ∙ decode_of-encode_lower (granule_bytes word low) (are_bytes (granule_bytes word low) (granule_are_bytes word low))

  pub memory_word : IsWord (memory_text word)
  memory_word = record {
    filled = filled_encoded (byte_at 0 (word % 2 ^ 64)) (bytes_low_first 1 7 (word % 2 ^ 64)) (encode_lower (to_le_bytes w64 (word / 2 ^ 64)));
    bytes = all_joined is_word_byte (encode_lower (to_le_bytes w64 (word % 2 ^ 64))) (encode_lower (to_le_bytes w64 (word / 2 ^ 64))) (encoded_bytes (to_le_bytes w64 (word % 2 ^ 64)) (low_are_bytes 0 8 (word % 2 ^ 64))) (encoded_bytes (to_le_bytes w64 (word / 2 ^ 64)) (low_are_bytes 0 8 (word / 2 ^ 64)));
  }

  same_bytes : to_be_bytes w64 (word % 2 ^ 64) ≡ to_be_bytes w64 word
  same_bytes =
      let b7 : byte_at 7 (word % 2 ^ 64) ≡ byte_at 7 word = omega arith in
      let b6 : byte_at 6 (word % 2 ^ 64) ≡ byte_at 6 word = omega arith in
      let b5 : byte_at 5 (word % 2 ^ 64) ≡ byte_at 5 word = omega arith in
      let b4 : byte_at 4 (word % 2 ^ 64) ≡ byte_at 4 word = omega arith in
      let b3 : byte_at 3 (word % 2 ^ 64) ≡ byte_at 3 word = omega arith in
      let b2 : byte_at 2 (word % 2 ^ 64) ≡ byte_at 2 word = omega arith in
      let b1 : byte_at 1 (word % 2 ^ 64) ≡ byte_at 1 word = omega arith in
      let b0 : byte_at 0 (word % 2 ^ 64) ≡ byte_at 0 word = omega arith in
      cc

  upper_shape : IsNumeral 16 (digits 16 false (word / 2 ^ 64)) × (digits_value 16 (digits 16 false (word / 2 ^ 64)) ≡ word / 2 ^ 64)
  upper_shape = digits_is_IsNumeral 16 false (omega arith) (omega arith) (word / 2 ^ 64) (omega arith)

  lower_digits_of : AllDigits 16 (encode_lower (to_be_bytes w64 (word % 2 ^ 64)))
  lower_digits_of = bytes_are_digits (to_be_bytes w64 (word % 2 ^ 64)) (high_are_bytes 8 (word % 2 ^ 64))

  word_value : digits_value 16 (digits 16 false (word / 2 ^ 64) ++ encode_lower (to_be_bytes w64 (word % 2 ^ 64))) ≡ word
  word_value =
      value_after_joined 0 (digits 16 false (word / 2 ^ 64)) (encode_lower (to_be_bytes w64 (word % 2 ^ 64)))
      ∙ ap (λ n. digits_value_after 16 n (encode_lower (to_be_bytes w64 (word % 2 ^ 64)))) upper_shape.1
      ∙ digits_of_bytes (word / 2 ^ 64) (to_be_bytes w64 (word % 2 ^ 64)) (high_are_bytes 8 (word % 2 ^ 64))
      ∙ ap (be_after (word / 2 ^ 64)) same_bytes
      ∙ high_value 8 word (word / 2 ^ 64) refl

  all_digits_of : IsNumeral 16 (digits 16 false (word / 2 ^ 64) ++ encode_lower (to_be_bytes w64 (word % 2 ^ 64)))
  all_digits_of = (some_joined (digits 16 false (word / 2 ^ 64)) (encode_lower (to_be_bytes w64 (word % 2 ^ 64))) upper_shape.0.0, digits_joined (digits 16 false (word / 2 ^ 64)) (encode_lower (to_be_bytes w64 (word % 2 ^ 64))) upper_shape.0.1 lower_digits_of)

  pub word_reads : number_of (word_text word) ≡ Ok (Some word)
  word_reads =
      after_0x (digits 16 false (word / 2 ^ 64) ++ encode_lower (to_be_bytes w64 (word % 2 ^ 64)))
      ∙ number_where 16 (digits 16 false (word / 2 ^ 64) ++ encode_lower (to_be_bytes w64 (word % 2 ^ 64))) word all_digits_of word_value low

  pub word_word : IsWord (word_text word)
  word_word = hex_word_of (digits 16 false (word / 2 ^ 64) ++ encode_lower (to_be_bytes w64 (word % 2 ^ 64))) (digit_bytes 16 (digits 16 false (word / 2 ^ 64) ++ encode_lower (to_be_bytes w64 (word % 2 ^ 64))) (omega arith) all_digits_of.1)
