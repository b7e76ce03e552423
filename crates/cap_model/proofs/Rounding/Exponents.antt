-- The exponent and the alignment of a length: that the exponent is the one that the length calls for, and how
-- both grow with the length.
use Rattle.std.proofs.Common.{◌≡◌, ℕ, ◌+◌, ◌*◌, ◌/◌, ◌^◌, ◌<◌, ◌≤◌, Bool, nat_lt, refl, inl, inr, arith, zero, suc, le_trans, lit<, if◌then◌else◌, lt-ltb, le-ltb, ltb-true, ltb-false}
use Rattle.std.proofs.lemmas.Bool.{cases_lt}
use Rattle.std.proofs.lemmas.Nat.{pow-add}
use Rattle.std.proofs.Math.Nat.{pow-le-pow_right, two-pow-succ}
use Rattle.cap_model.specs.bounds.Numbers.{first_from}
use Rattle.cap_model.specs.bounds.Lengths.{exponent, internal_exponent, alignment}
use Rattle.cap_model.proofs.Rounding.Searches.{first_from_before, first_from_least, first_from_passes, first_from_is}

-- the least of the exponents 0 to 63 at which a length, which may hang on it, is below 2^(e+13)
abbrev pub least_fit : (ℕ → ℕ) → ℕ
least_fit length_at = first_from (λ e. nat_lt (length_at e) (2 ^ (e + 13))) 64 0

abbrev fits_at : (ℕ → ℕ) → ℕ → Bool
fits_at length_at e = nat_lt (length_at e) (2 ^ (e + 13))

pub least_fit_least : (length_at : ℕ → ℕ) (e : ℕ) → length_at e < 2 ^ (e + 13) → least_fit length_at ≤ e
least_fit_least length_at e fits = first_from_least _ 64 0 e (omega arith) (lt-ltb _ _ fits)

pub least_fit_before : (length_at : ℕ → ℕ) (e : ℕ) → e < least_fit length_at → 2 ^ (e + 13) ≤ length_at e
least_fit_before length_at e before = ltb-false _ _ (first_from_before _ 64 0 e (omega arith) before)

pub least_fit_fits : (length_at : ℕ → ℕ) (e : ℕ) → e < 64 → length_at e < 2 ^ (e + 13) → length_at (least_fit length_at) < 2 ^ (least_fit length_at + 13)
least_fit_fits length_at e within fits = ltb-true _ _ (first_from_passes (fits_at length_at) 64 0 e (omega arith) (omega arith) (lt-ltb _ _ fits))

pub least_fit_is : (length_at : ℕ → ℕ) (e : ℕ) → e < 64 → length_at e < 2 ^ (e + 13) → ((m : ℕ) → m < e → 2 ^ (m + 13) ≤ length_at m) → least_fit length_at ≡ e
least_fit_is length_at e within fits none =
    first_from_is _ 64 0 e (omega arith) (omega arith) (lt-ltb _ _ fits) (λ m from before. le-ltb _ _ (none m before))

-- two powers of 2 in order have their exponents in order
pub exponents_ordered : (i j : ℕ) → 2 ^ i < 2 ^ j → i < j
exponents_ordered i j below =
    elim (cases_lt i j) [
      | inl ordered ↦ ordered
      | inr not_ordered ↦ absurd (omega (arith, pow-le-pow_right {n = 2} (lit< tt) not_ordered))
    ]

-- below 2^13 the exponent is 0
pub exponent_small : (len : ℕ) → len < 2 ^ 13 → exponent len ≡ 0
unfolding exponent
exponent_small len small = least_fit_is (λ _. len) 0 (omega arith) small (λ m before. absurd (omega arith))

-- 2^(e+12) ≤ len < 2^(e+13) says what the exponent is
pub exponent_between : (len e : ℕ) → e < 64 → 2 ^ (e + 12) ≤ len → len < 2 ^ (e + 13) → exponent len ≡ e
unfolding exponent
exponent_between len e within bottom top =
    least_fit_is (λ _. len) e within top (λ m before. le_trans (pow-le-pow_right {n = 2} (lit< tt) (omega arith)) bottom)

-- a length is below 2^(E+13)
pub exponent_top : (len : ℕ) → len ≤ 2 ^ 64 → len < 2 ^ (exponent len + 13)
unfolding exponent
exponent_top len fits = least_fit_fits (λ _. len) 52 (omega arith) (omega arith)

-- a length from 2^13 on is at least 2^(E+12)
pub exponent_bottom : (len : ℕ) → 2 ^ 13 ≤ len → 2 ^ (exponent len + 12) ≤ len
unfolding exponent
exponent_bottom len long = bottom (least_fit (λ _. len)) refl
  where
    bottom : (e : ℕ) → least_fit (λ _. len) ≡ e → 2 ^ (e + 12) ≤ len
    bottom zero is = omega arith
    bottom (suc e) is = le_trans (pow-le-pow_right {n = 2} (lit< tt) (omega arith)) (least_fit_before (λ _. len) e (omega arith))

-- E is the greatest e with 2^(e+12) at most the length
pub exponent_greatest : (len e : ℕ) → len ≤ 2 ^ 64 → 2 ^ (e + 12) ≤ len → e ≤ exponent len
exponent_greatest len e fits bottom = omega (arith, exponents_ordered (e + 12) (exponent len + 13) (omega (arith, exponent_top len fits)))

-- E is the least e for which the length is below 2^(e+13)
pub exponent_least : (len e : ℕ) → len < 2 ^ (e + 13) → exponent len ≤ e
unfolding exponent
exponent_least len e fits = least_fit_least (λ _. len) e fits

-- no length has an exponent above 52
pub exponent_at_most : (len : ℕ) → len ≤ 2 ^ 64 → exponent len ≤ 52
exponent_at_most len fits = exponent_least len 52 (omega arith)

pub no_exponent_before : (len e : ℕ) → e < exponent len → 2 ^ (e + 13) ≤ len
unfolding exponent
no_exponent_before len e before = least_fit_before (λ _. len) e before

-- the number of binary digits of len / 2^13 is the exponent
pub exponent_digits : (len digits : ℕ) → len ≤ 2 ^ 64 → len / 2 ^ 13 < 2 ^ digits → 2 ^ digits ≤ 2 * (len / 2 ^ 13) + 1 → exponent len ≡ digits
exponent_digits len zero fits top bottom = exponent_small len (omega arith)
exponent_digits len (suc d) fits top bottom =
    exponent_between len (suc d)
    (omega (arith, exponents_ordered (suc d) 53 (omega arith)))
    (omega (arith, pow-add 2 (suc d) 12, two-pow-succ d))
    (omega (arith, pow-add 2 (suc d) 13))

-- the internal exponent bit, and the alignment, below 2^12 and from there on
pub internal_exponent_small : (len : ℕ) → len < 2 ^ 12 → internal_exponent len ≡ 0
unfolding internal_exponent
internal_exponent_small len small = rw (lt-ltb len (2 ^ 12) small) refl

pub internal_exponent_long : (len : ℕ) → 2 ^ 12 ≤ len → internal_exponent len ≡ 1
unfolding internal_exponent
internal_exponent_long len long = rw (le-ltb len (2 ^ 12) long) refl

pub alignment_small : (len : ℕ) → len < 2 ^ 12 → alignment len ≡ 1
unfolding alignment
alignment_small len small = rw (lt-ltb len (2 ^ 12) small) refl

pub alignment_long : (len : ℕ) → 2 ^ 12 ≤ len → alignment len ≡ 2 ^ (exponent len + 3)
unfolding alignment
alignment_long len long = rw (le-ltb len (2 ^ 12) long) refl

-- the alignment is a power of 2, with this exponent
abbrev pub alignment_bits : ℕ → ℕ
alignment_bits len = if nat_lt len (2 ^ 12) then 0 else exponent len + 3

pub alignment_bits_long : (len : ℕ) → 2 ^ 12 ≤ len → alignment_bits len ≡ exponent len + 3
alignment_bits_long len long = rw (le-ltb len (2 ^ 12) long) refl

pub alignment_power : (len : ℕ) → alignment len ≡ 2 ^ alignment_bits len
alignment_power len =
    elim (cases_lt len (2 ^ 12)) [
      | inl small ↦ rw (lt-ltb len (2 ^ 12) small) (alignment_small len small)
      | inr long ↦ rw (le-ltb len (2 ^ 12) long) (alignment_long len long)
    ]

pub alignment_is_power : (len : ℕ) → (n : ℕ) × (alignment len ≡ 2 ^ n)
alignment_is_power len = (alignment_bits len, alignment_power len)

-- where the exponent of a length lies, and what its alignment is
pub ruleset exponent_laws = (exponent_small, exponent_bottom, exponent_top, exponent_greatest, exponent_at_most)

pub ruleset alignment_laws = (alignment_small, alignment_long, alignment_is_power)

-- the internal exponent bit on either side of 2^12
pub ruleset internal_exponent_laws = (internal_exponent_small, internal_exponent_long)

pub exponent_bottom_from_12 : (len : ℕ) → 2 ^ 12 ≤ len → 2 ^ (exponent len + 12) ≤ len
exponent_bottom_from_12 len h = elim (cases_lt len (2 ^ 13)) [
  | inl short ↦ rw (exponent_small len short) h
  | inr long ↦ exponent_bottom len long
]
