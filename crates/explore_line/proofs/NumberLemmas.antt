-- Which arguments write the numbers of runs, and that no number is greater than its greatest one.
use Rattle.std.proofs.Common.{◌≡◌, ℕ, ◌≤◌, refl, arith, Option, Some, None, nat_le, ◌&&◌, Bool, true, false, cond, IfSome}
use Rattle.std.proofs.lemmas.Bool.Decides.{nat_tests}
use Rattle.std.specs.Prelude.{option_and_then}
use Rattle.clap.specs.Words.{Text}
use Rattle.text_numbers.specs.Numerals.{number_in}
use Rattle.text_numbers.proofs.NumeralLemmas.{kept_of}
use Rattle.command_line.specs.Numbers.{decimal_within, within}
use Rattle.command_line.proofs.NumberLemmas.{decimal_is, no_decimal}
use Rattle.explore_line.specs.declared.numbers.TheConstants.{GREATEST_RUN}

abbrev no_number : Option ℕ
no_number = None

within_no_more : (least greatest number : ℕ) → IfSome (within least greatest number) (λ n. n ≤ greatest)
within_no_more least greatest number = by (nat_le least number) (nat_le number greatest) refl
  where
    by : (some few : Bool) → nat_le number greatest ≡ few → IfSome (cond (some && few) (Some number) no_number) (λ n. n ≤ greatest)
    by true true is = grind (arith, nat_tests)
    by true false is = tt
    by false few is = tt

no_more_of : (least greatest : ℕ) (found : Option ℕ) → IfSome (option_and_then (within least greatest) found) (λ n. n ≤ greatest)
no_more_of least greatest None = tt
no_more_of least greatest (Some number) = within_no_more least greatest number

pub no_more : (least greatest : ℕ) (arg : Text) → IfSome (decimal_within least greatest arg) (λ n. n ≤ greatest)
unfolding decimal_within
no_more least greatest arg = no_more_of least greatest (number_in 10 arg)

-- the number of a run
pub run_is : (arg : Text) (number : ℕ) → Some number ≡ kept_of (number_in 10 arg) →
    within 0 GREATEST_RUN number ≡ decimal_within 0 GREATEST_RUN arg
run_is arg number is = decimal_is 0 GREATEST_RUN arg number is

pub no_run : (arg : Text) → None ≡ kept_of (number_in 10 arg) → None ≡ decimal_within 0 GREATEST_RUN arg
no_run arg is = no_decimal 0 GREATEST_RUN arg (omega arith) is
