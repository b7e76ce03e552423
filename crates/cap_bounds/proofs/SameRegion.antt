-- Two addresses whose regions begin at the same place modulo 2^64 give one word the same bounds.
use Rattle.std.proofs.Common.{◌≡◌, ℕ, ◌+◌, ◌-◌, ◌*◌, ◌/◌, ◌%◌, ◌^◌, ◌<◌, ◌≤◌, true, false, nat_lt, arith, sym, ap, inl, inr}
use Rattle.std.proofs.lemmas.Bool.Decides.{nat_tests}
use Rattle.std.proofs.lemmas.Bool.{cases_lt, cases_eq}
use Rattle.cap_model.specs.words.RawBounds.{region_floor, region_start, corrected_top}

-- the greatest number at most n that is congruent to c modulo 2^65 or 2^66 is congruent to c modulo 2^65
congruent_65 : (n c : ℕ) → 2 ^ 66 ≤ n → c ≤ 2 ^ 65 → (n - (n + (2 ^ 65 - c)) % 2 ^ 65) % 2 ^ 65 ≡ c % 2 ^ 65
congruent_65 n c large small = omega arith

-- the same of 2^66
congruent_66 : (n c : ℕ) → 2 ^ 66 ≤ n → c ≤ 2 ^ 66 → (n - (n + (2 ^ 66 - c)) % 2 ^ 66) % 2 ^ 65 ≡ c % 2 ^ 65
congruent_66 n c large small = omega arith

-- a region begins below its size, modulo that
floor_below : (b : ℕ) → region_floor b < 2 ^ 14
unfolding region_floor
floor_below b = omega arith

-- from exponent 51 on, where a region begins does not depend on the address, modulo 2^65
pub start_51 : (b addr : ℕ) → region_start 51 b addr % 2 ^ 65 ≡ region_floor b * 2 ^ 51 % 2 ^ 65
unfolding region_start
start_51 b addr =
    congruent_65 (addr + 2 ^ 66) (region_floor b * 2 ^ 51) (omega arith) (omega (arith, floor_below b))

-- the same at exponent 52
pub start_52 : (b addr : ℕ) → region_start 52 b addr % 2 ^ 65 ≡ region_floor b * 2 ^ 52 % 2 ^ 65
unfolding region_start
start_52 b addr =
    congruent_66 (addr + 2 ^ 66) (region_floor b * 2 ^ 52) (omega arith) (omega (arith, floor_below b))

-- tops that differ in bit 64 alone are in turn more and not more than one step above the base
turned : (base top other : ℕ) → base < 2 ^ 64 → top < 2 ^ 65 → other ≡ (top + 2 ^ 64) % 2 ^ 65 →
    1 < (top / 2 ^ 63 + 4 - base / 2 ^ 63) % 4 → (other / 2 ^ 63 + 4 - base / 2 ^ 63) % 4 ≤ 1
turned base top other low high apart more = omega arith

-- the other way round
turned_back : (base top other : ℕ) → base < 2 ^ 64 → top < 2 ^ 65 → other ≡ (top + 2 ^ 64) % 2 ^ 65 →
    (top / 2 ^ 63 + 4 - base / 2 ^ 63) % 4 ≤ 1 → 1 < (other / 2 ^ 63 + 4 - base / 2 ^ 63) % 4
turned_back base top other low high apart less = omega arith

-- so the last correction gives both the same top
corrected_alike : (e base top other : ℕ) → e < 51 → base < 2 ^ 64 → top < 2 ^ 65 → other ≡ (top + 2 ^ 64) % 2 ^ 65 →
    corrected_top e base other ≡ corrected_top e base top
unfolding corrected_top
corrected_alike e base top other small low high apart =
    let below : nat_lt e 51 ≡ true = grind (arith, nat_tests) in
    elim (cases_lt 1 ((top / 2 ^ 63 + 4 - base / 2 ^ 63) % 4)) [
      | inl more ↦
          let here : nat_lt 1 ((top / 2 ^ 63 + 4 - base / 2 ^ 63) % 4) ≡ true = grind (arith, nat_tests) in
          let not_more : (other / 2 ^ 63 + 4 - base / 2 ^ 63) % 4 ≤ 1 = turned base top other low high apart more in
          let there : nat_lt 1 ((other / 2 ^ 63 + 4 - base / 2 ^ 63) % 4) ≡ false = grind (arith, nat_tests) in
          rw (below, here, there) apart
      | inr less ↦
          let here : nat_lt 1 ((top / 2 ^ 63 + 4 - base / 2 ^ 63) % 4) ≡ false = grind (arith, nat_tests) in
          let more : 1 < (other / 2 ^ 63 + 4 - base / 2 ^ 63) % 4 = turned_back base top other low high apart less in
          let there : nat_lt 1 ((other / 2 ^ 63 + 4 - base / 2 ^ 63) % 4) ≡ true = grind (arith, nat_tests) in
          rw (below, here, there) (omega arith)
    ]

-- numbers that are equal modulo 2^64 differ in bit 64 at most, modulo 2^65
bit_apart : (x y more : ℕ) → x % 2 ^ 64 ≡ y % 2 ^ 64 → ((x + more) % 2 ^ 65 ≡ (y + more) % 2 ^ 65 → ⊥) →
    (y + more) % 2 ^ 65 ≡ ((x + more) % 2 ^ 65 + 2 ^ 64) % 2 ^ 65
bit_apart x y more same differ = omega arith

-- below exponent 51 the top is the same from starts that are equal modulo 2^64
pub top_from_start : (e base x y more : ℕ) → e < 51 → base < 2 ^ 64 → x % 2 ^ 64 ≡ y % 2 ^ 64 →
    corrected_top e base ((y + more) % 2 ^ 65) ≡ corrected_top e base ((x + more) % 2 ^ 65)
top_from_start e base x y more small low same =
    elim (cases_eq ((x + more) % 2 ^ 65) ((y + more) % 2 ^ 65)) [
      | inl equal ↦ ap (corrected_top e base) (sym equal)
      | inr differ ↦
          corrected_alike e base ((x + more) % 2 ^ 65) ((y + more) % 2 ^ 65) small low (omega arith) (bit_apart x y more same differ)
    ]
