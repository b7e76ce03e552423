-- Which arguments write numbers in bounds: a number that isn't read is beyond all of them.
use Rattle.std.proofs.Common.{◌≡◌, ℕ, ◌^◌, ◌<◌, ◌≤◌, inl, inr, refl, arith, Option, Some, None, nat_le, ◌&&◌, Bool, true, false}
use Rattle.std.proofs.lemmas.Bool.Decides.{nat_tests}
use Rattle.clap.specs.Words.{Text}
use Rattle.text_numbers.specs.Numerals.{number_in}
use Rattle.text_numbers.proofs.NumeralLemmas.{kept_of, number_read, none_read}
use Rattle.command_line.specs.Numbers.{decimal_within, within}

pub both_false : (b : Bool) → (b && false) ≡ false
both_false true = refl
both_false false = refl

none_within : (least greatest number : ℕ) → greatest < 2 ^ 128 → 2 ^ 128 ≤ number → None ≡ within least greatest number
none_within least greatest number small beyond =
    let above : nat_le number greatest ≡ false = grind (arith, nat_tests) in
    rw (above, both_false (nat_le least number)) refl

pub decimal_is : (least greatest : ℕ) (arg : Text) (number : ℕ) → Some number ≡ kept_of (number_in 10 arg) →
    within least greatest number ≡ decimal_within least greatest arg
unfolding decimal_within
decimal_is least greatest arg number is = rw (number_read (number_in 10 arg) number is) refl

pub no_decimal : (least greatest : ℕ) (arg : Text) → greatest < 2 ^ 128 → None ≡ kept_of (number_in 10 arg) → None ≡ decimal_within least greatest arg
unfolding decimal_within
no_decimal least greatest arg small is = elim (none_read (number_in 10 arg) is) [
  | inl none ↦ rw none refl
  | inr beyond ↦ rw (beyond.1) (none_within least greatest beyond.0 small beyond.2)
]
