-- The sweep that a text writes, part by part.
use Rattle.std.proofs.Common.{◌≡◌, ◌≤◌, ◌+◌, ◌^◌, ◌==◌, ◌&&◌, nat_lt, nat_le, ℕ, Bool, true, false, inl, inr, arith, take, List, drop, Option, Some, None, refl}
use Rattle.std.proofs.lemmas.Bool.Decides.{nat_tests}
use Rattle.std.specs.List.{position}
use Rattle.text_numbers.specs.Numerals.{number_of}
use Rattle.text_numbers.proofs.NumeralLemmas.{kept_of, number_read, none_read}
use Rattle.explore_sweeps.specs.Sweeps.{◌>>=◌, sweep_of, sweep_within}

both_false : (b : Bool) → (b && false) ≡ false
both_false true = refl
both_false false = refl

abbrev pub is_comma : ℕ → Bool
is_comma b = b == 0x2C

pub no_comma : (arg : List ℕ) → None ≡ position is_comma arg → None ≡ sweep_of arg
unfolding sweep_of
no_comma arg is = rw (← is) refl

-- a range that ends, or begins, outside the address space
none_of_low : (lo hi : ℕ) → 2 ^ 128 ≤ lo → None ≡ sweep_within lo hi
none_of_low lo hi beyond =
    let above : nat_lt lo (2 ^ 64) ≡ false = grind (arith, nat_tests) in
    rw (above, both_false (nat_le lo hi && nat_le hi (2 ^ 64))) refl

none_of_high : (lo hi : ℕ) → 2 ^ 128 ≤ hi → None ≡ sweep_within lo hi
none_of_high lo hi beyond =
    let above : nat_le hi (2 ^ 64) ≡ false = grind (arith, nat_tests) in
    rw (above, both_false (nat_le lo hi)) refl

-- whatever the other end is
none_from : (lo : ℕ) (high : Option ℕ) → 2 ^ 128 ≤ lo → None ≡ (high >>= (λ hi. sweep_within lo hi))
none_from lo None beyond = refl
none_from lo (Some hi) beyond = none_of_low lo hi beyond

pub no_low : (arg : List ℕ) (comma : ℕ) → Some comma ≡ position is_comma arg →
    None ≡ kept_of (number_of (take comma arg)) → None ≡ sweep_of arg
unfolding sweep_of
no_low arg comma at is = elim (none_read (number_of (take comma arg)) is) [
  | inl none ↦ rw (← at, none) refl
  | inr beyond ↦ rw (← at, beyond.1) (none_from beyond.0 (number_of (drop (comma + 1) arg)) beyond.2)
]

pub no_high : (arg : List ℕ) (comma lo : ℕ) → Some comma ≡ position is_comma arg →
    Some lo ≡ kept_of (number_of (take comma arg)) →
    None ≡ kept_of (number_of (drop (comma + 1) arg)) → None ≡ sweep_of arg
unfolding sweep_of
no_high arg comma lo at low is =
    let start = number_read (number_of (take comma arg)) lo low in
    elim (none_read (number_of (drop (comma + 1) arg)) is) [
      | inl none ↦ rw (← at, start, none) refl
      | inr beyond ↦ rw (← at, start, beyond.1) (none_of_high lo beyond.0 beyond.2)
    ]

pub swept : (arg : List ℕ) (comma lo hi : ℕ) → Some comma ≡ position is_comma arg →
    Some lo ≡ kept_of (number_of (take comma arg)) →
    Some hi ≡ kept_of (number_of (drop (comma + 1) arg)) → sweep_within lo hi ≡ sweep_of arg
unfolding sweep_of
swept arg comma lo hi at low high =
    let start = number_read (number_of (take comma arg)) lo low in
    let end = number_read (number_of (drop (comma + 1) arg)) hi high in
    rw (← at, start, end) refl

pub ruleset sweep_parts = (no_comma, no_low, no_high, swept)
