-- A sweep whose numbers were read up to 128 bits is the sweep of the numbers.
use Rattle.std.proofs.Common.{◌≡◌, ℕ, ◌+◌, ◌-◌, ◌^◌, min, List, drop, nat_lt, Bool, true, false, cond, ◌&&◌, Ok, Err, refl, arith}
use Rattle.std.proofs.lemmas.Bool.Decides.{nat_tests}
use Rattle.cap_model.specs.declared.encoding.TheConstants.{ADDRESS_SPACE}
use Rattle.cheri_model.specs.declared.operation.Op.TheVariants as operation
use Rattle.cheri_model.specs.runs.Sweeps.{is_range}
use Rattle.orders.specs.Faults.{◌>>=◌, range_fault}
use Rattle.orders.specs.Numbers.{number_of, number_end}
use Rattle.orders.specs.Sweeps.{sweep_of, sweep_at}

-- the greatest number that is read
abbrev greatest : ℕ
greatest = 2 ^ 128 - 1

same_test : (lo hi : ℕ) → (is_range (min lo greatest) (min hi greatest) && nat_lt (min lo greatest) ADDRESS_SPACE) ≡ (is_range lo hi && nat_lt lo ADDRESS_SPACE)
same_test lo hi = grind (arith, nat_tests)

kept_where : (place lo hi : ℕ) (test : Bool) → test ≡ (is_range lo hi && nat_lt lo ADDRESS_SPACE)
    → cond test (Ok (operation.Sweep (min lo greatest) (min hi greatest))) (Err (range_fault place)) ≡ cond test (Ok (operation.Sweep lo hi)) (Err (range_fault place))
kept_where place lo hi true e =
    let low : min lo greatest ≡ lo = grind (arith, nat_tests) in
    let high : min hi greatest ≡ hi = grind (arith, nat_tests) in
    rw (low, high) refl
kept_where place lo hi false e = refl

pub sweep_kept : (place lo hi : ℕ) → sweep_of place (min lo greatest) (min hi greatest) ≡ sweep_of place lo hi
sweep_kept place lo hi = rw (same_test lo hi) (kept_where place lo hi _ refl)

-- the sweep of a complete text
pub sweep_read : (text : List ℕ) (place comma bracket : ℕ) → number_end 0x2C text (place + 1) ≡ Ok comma → number_end 0x5D text (comma + 1) ≡ Ok bracket
    → sweep_at text place
    ≡ (sweep_of place (min (number_of (drop (place + 1) text)) greatest) (min (number_of (drop (comma + 1) text)) greatest) >>= (λ sweep. Ok (sweep, bracket + 1)))
unfolding sweep_at
sweep_read text place comma bracket first second =
    rw (first, second, sweep_kept place (number_of (drop (place + 1) text)) (number_of (drop (comma + 1) text))) refl
