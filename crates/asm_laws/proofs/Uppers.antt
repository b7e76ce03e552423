-- The upper part of a number of 64 bits: where it begins, and what it is from there on.
use Rattle.std.proofs.Common.{◌≡◌, ◌⊎◌, inl, inr, sym, ap, subst, ◌∙◌, ℕ, zero, suc, ◌+◌, ◌-◌, ◌*◌}
use Rattle.std.proofs.Common.{◌/◌, ◌%◌, ◌^◌, ◌<◌, ◌≤◌, true, false, arith}
use Rattle.std.specs.Prelude.{ℤ, nat_lt}
use Rattle.std.specs.Int.{w64, cast_signed, cast_unsigned, int_shr, trailing_zeros, bit_at}
use Rattle.std.proofs.lemmas.Bool.{cases_lt, or_cases, le-ltb, ltb-true, leb-true}
use Rattle.std.proofs.lemmas.Int.{to_z_pos}
use Rattle.std.proofs.Math.Nat.{mul-le-mul_right, add-mul, zero-div}
use Rattle.std.proofs.lemmas.Nat.{mod-pow-add, field_of, shr_split, shr-shr, shr_le, shr_high}
use Rattle.std.proofs.lemmas.Nat.{pow-add, pow_pos}
use Rattle.std.proofs.lemmas.Nat.Bits.{bit_at-trailing_zeros}
use Rattle.asm_expansions.specs.Immediates.{bits_of, low}
use Rattle.asm_expansions.specs.Constants.{is_word, upper, upper_place, upper_rest}
use Rattle.asm_expansions.proofs.Levels.{long_bits, upper_below}
use Rattle.asm_laws.proofs.Words.{IsWordBits, low_cases}

-- ---- the lowest 1

-- a number whose digits below k are 0
zeros_mod : (n k : ℕ) → ((i : ℕ) → i < k → bit_at n i ≡ 0) → n % 2 ^ k ≡ 0
zeros_mod n zero none = omega arith
zeros_mod n (suc k) none =
    let digit : n / 2 ^ k % 2 ≡ 0 = none k (omega arith) in
    let rest = zeros_mod n k (λ i below. none i (omega arith)) in
    let place : suc k ≡ 1 + k = omega arith in
    ap (λ (e : ℕ). n % 2 ^ e) place ∙ mod-pow-add n 1 k ∙ rw (digit, rest) (omega arith)

-- a multiple of 2^k has them
digit_zero : (n i j : ℕ) → n % 2 ^ (suc j + i) ≡ 0 → bit_at n i ≡ 0
digit_zero n i j none =
    let field : n / 2 ^ i % 2 ^ suc j ≡ 0 =
    sym (field_of n (suc j) i) ∙ ap (λ (x : ℕ). x / 2 ^ i) none ∙ zero-div (2 ^ i) in
    let place : suc j ≡ j + 1 = omega arith in
    let split : n / 2 ^ i % 2 ^ suc j ≡ (n / 2 ^ i / 2 % 2 ^ j) * 2 + n / 2 ^ i % 2 =
    ap (λ (e : ℕ). n / 2 ^ i % 2 ^ e) place ∙ mod-pow-add (n / 2 ^ i) j 1 in
    omega arith

place_from : (n k : ℕ) → n % 4096 ≡ 0 → bit_at n k ≡ 1 → 12 ≤ k
place_from n k none one =
    elim (cases_lt k 12) [
      | inl h ↦
          let whole : suc (11 - k) + k ≡ 12 = omega arith in
          let digit = digit_zero n k (11 - k) (ap (λ (e : ℕ). n % 2 ^ e) whole ∙ none) in
          absurd (omega arith)
      | inr h ↦ h
    ]

-- the place of the lowest 1 of a number that ends in twelve zeros
pub record IsLowest (n k : ℕ) : Type 0 where
  pub below : k < 64
  pub from : 12 ≤ k
  pub zeros : n % 2 ^ k ≡ 0

pub lowest_is : (n : ℕ) → 0 < n → n < 2 ^ 64 → n % 4096 ≡ 0 → IsLowest n (trailing_zeros w64 n)
lowest_is n some below none =
    let place = bit_at-trailing_zeros w64 n some below in
    record {
      below = place.0;
      from = place_from n (trailing_zeros w64 n) none place.1;
      zeros =
          zeros_mod n (trailing_zeros w64 n) place.2;
    }

-- ---- what a number is from a place on

-- a number whose size, with its sign, is at most b
abbrev pub IsSmall : ℕ → ℕ → Type 0
IsSmall b n = (n ≤ b) ⊎ ((2 ^ 64 ≤ n + b) × (n < 2 ^ 64))

-- shifted back it is the number; and it is smaller by twelve bits
pub record IsRest (b n k r : ℕ) : Type 0 where
  pub below : r < 2 ^ 64
  pub back : r * 2 ^ k % 2 ^ 64 ≡ n
  pub small : IsSmall b r

-- a shift by twelve bits or more
shifted_less : (n k : ℕ) → 12 ≤ k → n / 2 ^ k ≤ n / 4096
shifted_less n k from =
    let whole : 12 + (k - 12) ≡ k = omega arith in
    let twice : n / 4096 / 2 ^ (k - 12) ≡ n / 2 ^ k =
    shr-shr n 12 (k - 12) ∙ ap (λ (e : ℕ). n / 2 ^ e) whole in
    rw (← twice) (shr_le (n / 4096) (k - 12))

rest_of_positive : (b n k : ℕ) → n < 2 ^ 63 → 12 ≤ k → n % 2 ^ k ≡ 0 → IsSmall (4096 * b) n →
    IsRest b n k (n / 2 ^ k)
rest_of_positive b n k below from zeros small =
    let split = shr_split n k in
    let less = shifted_less n k from in
    let whole : n / 2 ^ k * 2 ^ k ≡ n = omega arith in
    record {
      below = omega arith;
      back = ap (λ (x : ℕ). x % 2 ^ 64) whole ∙ omega arith;
      small = elim small [ inl h ↦ inl (omega arith) | inr h ↦ inl (omega arith) ];
    }

-- the complement of a multiple of p
-- three parts of a product
parts_of_product : (q t p : ℕ) → (q + 1 + t) * p ≡ q * p + p + t * p
parts_of_product q t p =
    let outer : (q + 1 + t) * p ≡ (q + 1) * p + t * p = add-mul (q + 1) t p in
    let inner : (q + 1) * p ≡ q * p + 1 * p = add-mul q 1 p in
    let one : 1 * p ≡ p = omega arith in
    omega arith

complement_quotient : (n k d t : ℕ) → 2 ^ 64 ≡ (d + 1 + t) * 2 ^ k → n ≡ t * 2 ^ k → n < 2 ^ 64 →
    (2 ^ 64 - suc n) / 2 ^ k ≡ d
complement_quotient n k d t all is below =
    let some = pow_pos k in
    let parts = parts_of_product d t (2 ^ k) in
    let as_is : 2 ^ 64 - suc n ≡ d * 2 ^ k + (2 ^ k - 1) = omega arith in
    let short : 2 ^ k - 1 < 2 ^ k = omega arith in
    ap (λ (x : ℕ). x / 2 ^ k) as_is ∙ shr_high d k (2 ^ k - 1) short

complement_shifted : (n k s t : ℕ) → 2 ^ 64 ≡ s * 2 ^ k → n ≡ t * 2 ^ k → n < 2 ^ 64 →
    (2 ^ 64 - suc n) / 2 ^ k + 1 + t ≡ s
complement_shifted n k s t all is below =
    let some = pow_pos k in
    let less : t < s =
    elim (cases_lt t s) [
      | inl h ↦ h
      | inr h ↦
          let more : s * 2 ^ k ≤ t * 2 ^ k = mul-le-mul_right (2 ^ k) h in
          absurd (omega arith)
    ] in
    let sum : s ≡ (s - t - 1) + 1 + t = omega arith in
    let whole : 2 ^ 64 ≡ ((s - t - 1) + 1 + t) * 2 ^ k = all ∙ ap (λ (x : ℕ). x * 2 ^ k) sum in
    ap (λ (x : ℕ). x + 1 + t) (complement_quotient n k (s - t - 1) t whole is below) ∙ sym sum

-- the complement of a quotient, back in its place
complement_back : (w q t n p : ℕ) → w + 1 + q ≡ 2 ^ 64 → (q + 1 + t) * p ≡ 2 ^ 64 → n ≡ t * p →
    n < 2 ^ 64 → 0 < p → w * p % 2 ^ 64 ≡ n
complement_back w q t n p complement all is below some =
    let both : (w + 1 + q) * p ≡ 2 ^ 64 * p = ap (λ (x : ℕ). x * p) complement in
    let apart = parts_of_product w q p in
    let product = parts_of_product q t p in
    omega arith

rest_of_negative : (b n k : ℕ) → 2 ^ 63 ≤ n → n < 2 ^ 64 → 12 ≤ k → k < 64 → n % 2 ^ k ≡ 0 →
    IsSmall (4096 * b) n →
    IsRest b n k (2 ^ 64 - suc ((2 ^ 64 - suc n) / 2 ^ k))
rest_of_negative b n k above below from short zeros small =
    let q = (2 ^ 64 - suc n) / 2 ^ k in
    let s = 2 ^ (64 - k) in
    let t = n / 2 ^ k in
    let split = shr_split n k in
    let is : n ≡ t * 2 ^ k = omega arith in
    let whole : 64 ≡ 64 - k + k = omega arith in
    let all : 2 ^ 64 ≡ s * 2 ^ k = ap (λ (e : ℕ). 2 ^ e) whole ∙ pow-add 2 (64 - k) k in
    let sum : q + 1 + t ≡ s = complement_shifted n k s t all is below in
    let less = shifted_less (2 ^ 64 - suc n) k from in
    let scaled : (q + 1 + t) * 2 ^ k ≡ 2 ^ 64 = ap (λ (x : ℕ). x * 2 ^ k) sum ∙ sym all in
    let size : q < 2 ^ 63 = omega arith in
    let complement : 2 ^ 64 - suc q + 1 + q ≡ 2 ^ 64 = omega arith in
    let back : (2 ^ 64 - suc q) * 2 ^ k % 2 ^ 64 ≡ n =
    complement_back (2 ^ 64 - suc q) q t n (2 ^ k) complement scaled is below (pow_pos k) in
    record {
      below = omega arith;
      back = back;
      small = elim small [ inl h ↦ inr (omega arith, omega arith) | inr h ↦ inr (omega arith, omega arith) ];
    }

pub rest_is : (b n k : ℕ) → n < 2 ^ 64 → IsLowest n k → IsSmall (4096 * b) n →
    IsRest b n k (cast_unsigned w64 (int_shr (cast_signed w64 n) k))
rest_is b n k below lowest small =
    elim (cases_lt n (2 ^ 63)) [
      | inl h ↦
          subst (λ (z : ℤ). IsRest b n k (cast_unsigned w64 (int_shr z k))) (sym (to_z_pos w64 n h)) (rest_of_positive b n k h lowest.from lowest.zeros small)
      | inr h ↦ rw (le-ltb n (2 ^ 63) h) (rest_of_negative b n k h below lowest.from lowest.below lowest.zeros small)
    ]

-- ---- a number of 64 bits that isn't one of 32

pub word_bits : (n : ℕ) → n < 2 ^ 64 → is_word n ≡ true → IsWordBits n
word_bits n below is =
    elim (or_cases (nat_lt n (2 ^ 31)) _ is) [
      | inl h ↦ inl (ltb-true n (2 ^ 31) h)
      | inr h ↦ let least = leb-true (2 ^ 64 - 2 ^ 31) n h in inr (omega arith, below)
    ]

pub upper_lowest : (n : ℕ) → is_word n ≡ false → IsLowest (upper n) (upper_place n)
unfolding upper upper_place
upper_lowest n is =
    let size = long_bits n is in
    lowest_is _ (omega arith) (omega arith) (omega arith)

upper_small : (b n : ℕ) → IsSmall (4096 * b) n → IsSmall (4096 * b) (upper n)
unfolding upper
upper_small b n (inl h) = inl (omega arith)
upper_small b n (inr h) =
    elim (cases_lt (n + 2048) (2 ^ 64)) [
      | inl below ↦ inr (omega arith, omega arith)
      | inr above ↦ inl (omega arith)
    ]

pub upper_is_rest : (b n : ℕ) → is_word n ≡ false → IsSmall (4096 * b) n →
    IsRest b (upper n) (upper_place n) (upper_rest n)
unfolding upper_rest
upper_is_rest b n is small =
    rest_is b (upper n) (upper_place n) (upper_below n) (upper_lowest n is) (upper_small b n small)

-- with the low part it is the number
pub upper_and_low : (n : ℕ) → n < 2 ^ 64 → (upper n + bits_of (low n)) % 2 ^ 64 ≡ n
unfolding upper
upper_and_low n below =
    elim (low_cases n) [
      | inl h ↦ let from = h.0 in let is = h.1 in omega arith
      | inr h ↦ let from = h.0 in let is = h.1 in omega arith
    ]

pub upper_alone : (n : ℕ) → n < 2 ^ 64 → n % 4096 ≡ 0 → upper n ≡ n
unfolding upper
upper_alone n below none = omega arith
