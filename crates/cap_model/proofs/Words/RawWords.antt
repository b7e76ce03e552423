-- How large the parts of any word are, whether or not a capability has this word.
use Rattle.std.specs.Prelude.{ℕ, ◌+◌, ◌-◌, ◌/◌, ◌%◌, ◌^◌, ◌<◌, ◌≤◌, ◌==◌, ◌&&◌, nat_lt, if◌then◌else◌}
use Rattle.std.proofs.Common.{arith}
use Rattle.std.proofs.lemmas.Bool.{cond_both}
use Rattle.cap_model.specs.words.Fields.{word_ie, stored_t, stored_b, word_exponent, word_b, word_t, word_t14}
use Rattle.cap_model.specs.words.RawBounds.{raw_base, uncorrected_top, corrected_top, raw_top, halves_above, other_top}

-- the exponent of a word is at most 52
pub word_exponent_at_most : (upper : ℕ) → word_exponent upper ≤ 52
unfolding word_exponent
word_exponent_at_most upper = cond_both (word_ie upper == 0) _ _ (λ x. x ≤ 52) (λ e. omega arith) (λ e. omega arith)

-- B has 14 bits
pub word_b_lt : (upper : ℕ) → word_b upper < 2 ^ 14
unfolding word_b stored_b
word_b_lt upper = cond_both (word_ie upper == 0) _ _ (λ x. x < 2 ^ 14) (λ e. omega arith) (λ e. omega arith)

-- and so has T, with its upper two
pub word_t_lt : (upper : ℕ) → word_t upper < 2 ^ 12
unfolding word_t stored_t
word_t_lt upper = cond_both (word_ie upper == 0) _ _ (λ x. x < 2 ^ 12) (λ e. omega arith) (λ e. omega arith)

pub word_t14_lt : (upper : ℕ) → word_t14 upper < 2 ^ 14
unfolding word_t14
word_t14_lt upper = omega (arith, word_t_lt upper)

-- the raw base has 64 bits
pub raw_base_lt : (upper a : ℕ) → raw_base upper a < 2 ^ 64
unfolding raw_base
raw_base_lt upper a = omega arith

-- the raw top has 65 bits
corrected_top_lt : (e base top : ℕ) → top < 2 ^ 65 → corrected_top e base top < 2 ^ 65
unfolding corrected_top
corrected_top_lt e base top h =
    cond_both (nat_lt e 51 && nat_lt 1 (halves_above base top)) (other_top top) top (λ x. x < 2 ^ 65) (λ _. omega arith) (λ _. h)

pub raw_top_lt : (upper a : ℕ) → raw_top upper a < 2 ^ 65
unfolding raw_top uncorrected_top
raw_top_lt upper a = corrected_top_lt (word_exponent upper) (raw_base upper a) (uncorrected_top upper a) (omega arith)
