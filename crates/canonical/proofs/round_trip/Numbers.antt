-- Numbers read back, and are one word each.
use Rattle.std.proofs.Common.{◌≡◌, ℕ, ◌^◌, ◌<◌, ◌≤◌, ◌==◌, ◌&&◌, suc, nat_lt, nat_le, Bool, true, false, List, [], ◌∷◌, ◌++◌, length, Some, Ok, refl, ◌∙◌, arith}
use Rattle.std.specs.Prelude.{codes, decimal}
use Rattle.std.specs.Char.{digit_value}
use Rattle.std.specs.Fmt.{digits}
use Rattle.std.specs.List.{list_all}
use Rattle.std.specs.Str.Parse.{AllDigits, IsNumeral, digits_value}
use Rattle.std.proofs.lemmas.Bool.Decides.{nat_tests}
use Rattle.std.proofs.lemmas.Fmt.{digits_is_IsNumeral, decimal_is_IsNumeral_wide}
use Rattle.text_numbers.specs.Numerals.{begins_hexadecimal, number_in, number_of as written_number}
use Rattle.grammar.specs.Numerals.{number_of_digits, number_of}
use Rattle.grammar.specs.Tokens.{is_filled, is_blank}
use Rattle.canonical.proofs.round_trip.Words.{is_open, is_word_byte, IsWord, both, filled_where, filled_cons}

test_lt : (a b : ℕ) → a < b → nat_lt a b ≡ true
test_lt a b h = grind (arith, nat_tests)

pub all_digits : (base : ℕ) (ds : List ℕ) → AllDigits base ds → list_all (λ b. nat_lt (digit_value b) base) ds ≡ true
all_digits base [] h = refl
all_digits base (d ∷ ds) h = both _ _ (test_lt _ _ h.0) (all_digits base ds h.1)

-- digits are bytes of words
digit_byte : (b : ℕ) → digit_value b < 16 → is_word_byte b ≡ true
unfolding is_word_byte is_open is_blank
digit_byte b h = grind (arith, nat_tests)

pub digit_bytes : (base : ℕ) (ds : List ℕ) → base ≤ 16 → AllDigits base ds → list_all is_word_byte ds ≡ true
digit_bytes base [] low h = refl
digit_bytes base (d ∷ ds) low h =
    let here : digit_value d < base = h.0 in
    both _ _ (digit_byte d (omega arith)) (digit_bytes base ds low h.1)

pub word_of_digits : (base : ℕ) (ds : List ℕ) → base ≤ 16 → IsNumeral base ds → IsWord ds
word_of_digits base ds low h = record { filled = filled_where ds h.0; bytes = digit_bytes base ds low h.1 }

-- decimal digits do not begin hexadecimal ones
no_x : (b : ℕ) → digit_value b < 10 → (b == 0x78) ≡ false
no_x b h = grind (arith, nat_tests)

decimal_digits : (ds : List ℕ) → AllDigits 10 ds → begins_hexadecimal ds ≡ false
decimal_digits [] h = refl
decimal_digits (a ∷ []) h = refl
decimal_digits (a ∷ b ∷ ds) h = and_false (nat_le 2 (suc (suc (length ds))) && (a == 0x30)) _ (no_x b h.1.0)
  where
    and_false : (p q : Bool) → q ≡ false → (p && q) ≡ false
    and_false true q e = e
    and_false false q e = refl

pub number_where : (base : ℕ) (ds : List ℕ) (n : ℕ) → IsNumeral base ds → digits_value base ds ≡ n → n < 2 ^ 128 → number_of_digits base ds ≡ Ok (Some n)
unfolding number_in
number_where base ds n h e low =
    let filled : is_filled ds ≡ true = filled_where ds h.0 in
    let all = all_digits base ds h.1 in
    rw (filled, all, e, test_lt n (2 ^ 128) low) refl

pub decimal_reads : (n : ℕ) → n < 2 ^ 128 → number_of (decimal n) ≡ Ok (Some n)
unfolding number_of written_number
decimal_reads n low =
    let shape = decimal_is_IsNumeral_wide n (omega arith) in
    rw (decimal_digits (decimal n) shape.0.1) (number_where 10 (decimal n) n shape.0 shape.1 low)

pub decimal_word : (n : ℕ) → n < 2 ^ 128 → IsWord (decimal n)
decimal_word n low = word_of_digits 10 (decimal n) (omega arith) (decimal_is_IsNumeral_wide n (omega arith)).0

hex_begins : (ds : List ℕ) → begins_hexadecimal (0x30 ∷ 0x78 ∷ ds) ≡ true
hex_begins ds = both _ true (both (nat_le 2 (suc (suc (length ds)))) true (long (length ds)) refl) refl
  where
    long : (n : ℕ) → nat_le 2 (suc (suc n)) ≡ true
    long n = grind (arith, nat_tests)

pub after_0x : (ds : List ℕ) → number_of (0x30 ∷ 0x78 ∷ ds) ≡ number_of_digits 16 ds
unfolding number_of written_number
after_0x ds = rw (hex_begins ds) refl

pub hex_reads : (n : ℕ) → n < 2 ^ 128 → number_of (codes "0x" ++ digits 16 false n) ≡ Ok (Some n)
hex_reads n low =
    let shape = digits_is_IsNumeral 16 false (omega arith) (omega arith) n (omega arith) in
    after_0x (digits 16 false n) ∙ number_where 16 (digits 16 false n) n shape.0 shape.1 low

pub hex_word_of : (ds : List ℕ) → list_all is_word_byte ds ≡ true → IsWord (0x30 ∷ 0x78 ∷ ds)
unfolding is_word_byte is_open is_blank
hex_word_of ds e = record { filled = filled_cons 0x30 (0x78 ∷ ds); bytes = e }

pub hex_word : (n : ℕ) → n < 2 ^ 128 → IsWord (codes "0x" ++ digits 16 false n)
hex_word n low =
    let shape = digits_is_IsNumeral 16 false (omega arith) (omega arith) n (omega arith) in
    hex_word_of (digits 16 false n) (digit_bytes 16 (digits 16 false n) (omega arith) shape.0.1)
