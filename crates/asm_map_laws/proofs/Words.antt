-- The words of a map's lines read as what they were written from.
use Rattle.std.proofs.Common.{if◌then◌else◌, ◌≡◌, ℕ, zero, suc, ◌+◌, ◌*◌, ◌/◌, ◌%◌, ◌^◌, ◌<◌, ◌==◌, ◌&&◌, nat_lt, nat_le, Bool, true, false, List, [], ◌∷◌, ◌++◌, length, get_or, Some, None, refl, ap, ◌∙◌, arith}
use Rattle.std.specs.Prelude.{not, decimal, slice_index}
use Rattle.std.specs.Borrow.{Bor}
use Rattle.std.specs.Char.{digit_char, digit_value}
use Rattle.std.specs.List.{list_all}
use Rattle.std.specs.Str.Parse.{AllDigits, IsNumeral, digits_value, digits_value_after}
use Rattle.std.proofs.lemmas.Bool.Decides.{nat_tests}
use Rattle.std.proofs.lemmas.Fmt.{decimal_digit, decimal_is_IsNumeral, first_decimal}
use Rattle.text_numbers.specs.Hexadecimal.{hex_text}
use Rattle.text_numbers.specs.Numerals.{number_in}
use Rattle.text_numbers.proofs.HexDigits.{digits_length}
use Rattle.asm_tokens.specs.Bytes.{is_name_start, is_name_byte}
use Rattle.asm_map_reader.specs.Words.{address_of, number_64, plain_number, symbol_of, text_of}
use Rattle.asm_map_laws.specs.Written.{IsName, IsWord}
use Rattle.asm_map_laws.proofs.Bytes.{Lacks, both_of, first_of_both, lacks_where, not_second, same_text, second_of_both}

-- ---- numbers

test_lt : (a b : ℕ) → a < b → nat_lt a b ≡ true
test_lt a b h = grind (arith, nat_tests)

all_digits : (base : ℕ) (ds : List ℕ) → AllDigits base ds → list_all (λ b. nat_lt (digit_value b) base) ds ≡ true
all_digits base [] h = refl
all_digits base (d ∷ ds) h = both_of _ _ (test_lt _ _ h.0) (all_digits base ds h.1)

filled : (ds : List ℕ) → 0 < length ds → not (length ds == 0) ≡ true
filled ds h = grind (arith, nat_tests)

in_number : (base : ℕ) (ds : List ℕ) (n : ℕ) → IsNumeral base ds → digits_value base ds ≡ n → number_in base ds ≡ Some n
unfolding number_in
in_number base ds n h e = rw (filled ds h.0, all_digits base ds h.1, e) refl

word_in : (base : ℕ) (ds : List ℕ) (n : ℕ) → IsNumeral base ds → digits_value base ds ≡ n → n < 2 ^ 64 → number_64 base ds ≡ Some n
unfolding number_64
word_in base ds n h e low =
    let wide : nat_lt n (2 ^ 128) ≡ true = test_lt n (2 ^ 128) (omega arith) in
    let narrow : nat_lt n (2 ^ 64) ≡ true = test_lt n (2 ^ 64) low in
    rw (in_number base ds n h e, wide, narrow) refl

no_zero : (b : ℕ) → 48 < b → (b == 0x30) ≡ false
no_zero b h = grind (arith, nat_tests)

-- no decimal number but 0 begins with a zero
pub plain_reads : (n : ℕ) → IsWord n → plain_number (decimal n) ≡ Some n
unfolding plain_number
plain_reads n low = by n refl
  where
    shape : IsNumeral 10 (decimal n) × (digits_value 10 (decimal n) ≡ n)
    shape = decimal_is_IsNumeral n low

    by : (m : ℕ) → n ≡ m → (if nat_le 2 (length (decimal n)) && (slice_index (decimal n) 0 == 0x30) then None else number_64 10 (decimal n)) ≡ Some n
    by zero is =
        let one : decimal n ≡ 48 ∷ [] = ap decimal is ∙ decimal_digit 0 (omega arith) in
        let short : nat_le 2 (length (decimal n)) ≡ false = rw one refl in
        rw short (word_in 10 (decimal n) n shape.0 shape.1 low)
    by (suc m) is =
        let first : (slice_index (decimal n) 0 == 0x30) ≡ false = no_zero (slice_index (decimal n) 0) (first_decimal n (omega (arith, is)) low) in
        rw (not_second (nat_le 2 (length (decimal n))) (slice_index (decimal n) 0 == 0x30) first) (word_in 10 (decimal n) n shape.0 shape.1 low)

value_push : (n : ℕ) (ds : List ℕ) (d : ℕ) → digits_value_after 16 n (ds ++ d ∷ []) ≡ digits_value_after 16 n ds * 16 + digit_value d
value_push n [] d = refl
value_push n (c ∷ ds) d = value_push (n * 16 + digit_value c) ds d

digit_back : (d : ℕ) → d < 16 → digit_value (digit_char d) ≡ d
digit_back d low = grind (arith, nat_tests)

-- how many numbers have so many digits
abbrev numbers : ℕ → ℕ
numbers zero = 1
numbers (suc width) = 16 * numbers width

hex_value : (width n : ℕ) → n < numbers width → digits_value 16 (hex_text width n) ≡ n
unfolding hex_text
hex_value zero n low = omega (arith, low)
hex_value (suc width) n low =
    let higher : digits_value 16 (hex_text width (n / 16)) ≡ n / 16 = hex_value width (n / 16) (omega (arith, low)) in
    let lower : digit_value (digit_char (n % 16)) ≡ n % 16 = digit_back (n % 16) (omega arith) in
    value_push 0 (hex_text width (n / 16)) (digit_char (n % 16)) ∙ omega (arith, higher, lower)

hex_digit : (d : ℕ) → d < 16 → digit_value (digit_char d) < 16
hex_digit d low = omega (arith, digit_back d low)

digits_push : (ds : List ℕ) (d : ℕ) → AllDigits 16 ds → digit_value d < 16 → AllDigits 16 (ds ++ d ∷ [])
digits_push [] d all low = (low, tt)
digits_push (c ∷ ds) d all low = (all.0, digits_push ds d all.1 low)

hex_digits : (width n : ℕ) → AllDigits 16 (hex_text width n)
unfolding hex_text
hex_digits zero n = tt
hex_digits (suc width) n = digits_push (hex_text width (n / 16)) (digit_char (n % 16)) (hex_digits width (n / 16)) (hex_digit (n % 16) (omega arith))

pub address_reads : (addr : ℕ) → IsWord addr → address_of (hex_text 16 addr) ≡ Some addr
unfolding address_of
address_reads addr low =
    let some : 0 < length (hex_text 16 addr) = omega (arith, digits_length 16 addr) in
    rw (word_in 16 (hex_text 16 addr) addr (some, hex_digits 16 addr) (hex_value 16 addr low) low, same_text (hex_text 16 addr)) refl

-- ---- their bytes

pub digits_lack : (base m : ℕ) (ds : List ℕ) → (digit_value m < base → ⊥) → AllDigits base ds → Lacks m ds
digits_lack base m ds never all =
    lacks_where (λ b. nat_lt (digit_value b) base) m ds (none (nat_lt (digit_value m) base) refl) (all_digits base ds all)
  where
    none : (t : Bool) → nat_lt (digit_value m) base ≡ t → t ≡ false
    none true e = let below : digit_value m < base = grind (arith, nat_tests) in absurd (never below)
    none false e = refl

pub decimal_lacks : (m n : ℕ) → (digit_value m < 10 → ⊥) → IsWord n → Lacks m (decimal n)
decimal_lacks m n never low = digits_lack 10 m (decimal n) never (decimal_is_IsNumeral n low).0.1

pub address_lacks : (m addr : ℕ) → (digit_value m < 16 → ⊥) → Lacks m (hex_text 16 addr)
address_lacks m addr never = digits_lack 16 m (hex_text 16 addr) never (hex_digits 16 addr)

pub some_digits : (n : ℕ) → IsWord n → 0 < length (decimal n)
some_digits n low = (decimal_is_IsNumeral n low).0.0

-- the first byte of a number is a digit
pub decimal_head : (n : ℕ) → IsWord n → digit_value (get_or (decimal n) 0 0) < 10
decimal_head n low = head (decimal n) (decimal_is_IsNumeral n low).0
  where
    head : (ds : List ℕ) → IsNumeral 10 ds → digit_value (get_or ds 0 0) < 10
    head [] h = absurd (omega (arith, h.0))
    head (d ∷ ds) h = h.1.0

-- ---- names

module _ (name : Bor (List ℕ)) (is : IsName name) where
  start : ((nat_le 1 (length name.now) && is_name_start (slice_index name.now 0)) ≡ true) × (list_all is_name_byte name.now ≡ true)
  start = (
    first_of_both (nat_le 1 (length name.now) && is_name_start (slice_index name.now 0)) (list_all is_name_byte name.now) is.0,
    second_of_both (nat_le 1 (length name.now) && is_name_start (slice_index name.now 0)) (list_all is_name_byte name.now) is.0,
  )

  pub name_reads : symbol_of name.now ≡ Some name.now
  unfolding symbol_of text_of
  name_reads = rw (is.0, is.1) refl

  pub name_lacks : (m : ℕ) → is_name_byte m ≡ false → Lacks m name.now
  name_lacks m never = lacks_where is_name_byte m name.now never start.1

  pub name_head : is_name_start (get_or name.now 0 0) ≡ true
  name_head = second_of_both (nat_le 1 (length name.now)) (is_name_start (slice_index name.now 0)) start.0

  pub some_name : 0 < length name.now
  some_name = let long : nat_le 1 (length name.now) ≡ true = first_of_both (nat_le 1 (length name.now)) (is_name_start (slice_index name.now 0)) start.0 in grind (arith, nat_tests)
