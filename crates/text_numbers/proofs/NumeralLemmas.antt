-- Reading a number digit by digit, with a limit of 128 bits, gives the number that the digits write.
use Rattle.std.proofs.Common.{◌≡◌, ℕ, ◌+◌, ◌*◌, ◌^◌, ◌≤◌, List, [], ◌∷◌, Some, None, fold, nat_lt, cond, Bool, true, false, inl, inr, refl, ap, ◌∙◌, arith}
use Rattle.std.proofs.lemmas.Bool.Decides.{nat_tests}
use Rattle.std.specs.Char.{digit_value}
use Rattle.std.specs.Str.Parse.{digits_value, digits_value_after}
use Rattle.std.specs.Prelude.{Option, option_map, ◌⊎◌}
use Rattle.std.specs.Option.{option_flatten}
use Rattle.text_numbers.specs.Numerals.{within_128_bits, with_digit}

module _ (base : ℕ) (positive : 1 ≤ base) where
  grows : (n d : ℕ) → 2 ^ 128 ≤ n → 2 ^ 128 ≤ n * base + d
  grows n d h = grind arith

  more_where : (small : Bool) (n b : ℕ) → (small ≡ nat_lt n (2 ^ 128)) → with_digit base (cond small (Some n) None) b ≡ within_128_bits (n * base + digit_value b)
  more_where true n b e = refl
  more_where false n b e = let h : 2 ^ 128 ≤ n = grind (arith, nat_tests) in let g = grows n (digit_value b) h in grind (arith, nat_tests)

  folded : (digits : List ℕ) (n : ℕ) → fold (with_digit base) (within_128_bits n) digits ≡ within_128_bits (digits_value_after base n digits)
  folded [] n = refl
  folded (b ∷ digits) n =
      ap (λ start. fold (with_digit base) start digits) (more_where (nat_lt n (2 ^ 128)) n b refl)
      ∙ folded digits (n * base + digit_value b)

  -- the fold over the digits is the number that they write
  pub digits_folded : (digits : List ℕ) → fold (with_digit base) (Some 0) digits ≡ within_128_bits (digits_value base digits)
  digits_folded digits = folded digits 0

-- ---- for callers to whom a number beyond 128 bits is none

-- a number that a text may write, where it was read
abbrev pub kept_of : Option ℕ → Option ℕ
kept_of found = option_flatten (option_map within_128_bits found)

kept : (n number : ℕ) (small : Bool) → Some number ≡ cond small (Some n) None → n ≡ number
kept n number true e = (let same : Some number ≡ Some n = e in cc)
kept n number false e = (let bad : Some number ≡ None = e in cc)

beyond : (n : ℕ) (small : Bool) → small ≡ nat_lt n (2 ^ 128) → None ≡ cond small (Some n) None → 2 ^ 128 ≤ n
beyond n true e bad = (let none : None ≡ Some n = bad in cc)
beyond n false e is = grind (arith, nat_tests)

-- what is read is the number
pub number_read : (found : Option ℕ) (number : ℕ) → Some number ≡ kept_of found → found ≡ Some number
number_read None number e = (let bad : Some number ≡ None = e in cc)
number_read (Some n) number e = ap Some (kept n number (nat_lt n (2 ^ 128)) e)

-- where nothing is, there is no number, or it is beyond 128 bits
pub none_read : (found : Option ℕ) → None ≡ kept_of found → (found ≡ None) ⊎ ((n : ℕ) × (found ≡ Some n) × (2 ^ 128 ≤ n))
none_read None e = inl refl
none_read (Some n) e = inr (n, refl, beyond n _ refl e)
