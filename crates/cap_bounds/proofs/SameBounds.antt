-- The bounds of a word are the same with two addresses exactly where the addresses' regions begin at the same
-- place modulo 2^64.
use Rattle.std.proofs.Common.{◌≡◌, ℕ, ◌+◌, ◌%◌, ◌^◌, ◌<◌, ◌≤◌, arith, sym, ◌∙◌, ap, inl, inr}
use Rattle.std.proofs.lemmas.Bool.{cases_lt}
use Rattle.cap_model.specs.words.Fields.{word_exponent, word_b, word_t14}
use Rattle.cap_model.specs.words.RawBounds.{region_start, region_offset, raw_base, uncorrected_top, corrected_top, raw_top}
use Rattle.cap_model.proofs.Words.RawWords.{word_exponent_at_most, raw_base_lt}
use Rattle.cap_bounds.proofs.SameRegion.{start_51, start_52, top_from_start}

-- the same top from the same bases, where the regions begin at the same place modulo 2^64
top_alike : (e b base old new more : ℕ) → e ≤ 52 → base < 2 ^ 64 →
    region_start e b old % 2 ^ 64 ≡ region_start e b new % 2 ^ 64 →
    corrected_top e base ((region_start e b new + more) % 2 ^ 65) ≡ corrected_top e base ((region_start e b old + more) % 2 ^ 65)
top_alike e b base old new more most low same =
    elim (cases_lt e 51) [
      | inl small ↦ top_from_start e base (region_start e b old) (region_start e b new) more small low same
      | inr large ↦
          let fixed : region_start e b old % 2 ^ 65 ≡ region_start e b new % 2 ^ 65 = at_51_or_52 e b old new most large in
          let equal : (region_start e b new + more) % 2 ^ 65 ≡ (region_start e b old + more) % 2 ^ 65 = omega arith in
          ap (corrected_top e base) equal
    ]
  where
    at_51_or_52 : (e b old new : ℕ) → e ≤ 52 → 51 ≤ e → region_start e b old % 2 ^ 65 ≡ region_start e b new % 2 ^ 65
    at_51_or_52 e b old new most large =
        elim (cases_lt e 52) [
          | inl less ↦ let is : e ≡ 51 = omega arith in rw is (start_51 b old ∙ sym (start_51 b new))
          | inr not_less ↦ let is : e ≡ 52 = omega arith in rw is (start_52 b old ∙ sym (start_52 b new))
        ]

-- equal bases come from regions that begin at the same place modulo 2^64
pub start_from_base : (upper old new : ℕ) → raw_base upper new ≡ raw_base upper old →
    region_start (word_exponent upper) (word_b upper) old % 2 ^ 64 ≡ region_start (word_exponent upper) (word_b upper) new % 2 ^ 64
unfolding raw_base
start_from_base upper old new equal = omega arith

-- and lead to equal bases
pub base_from_start : (upper old new : ℕ) →
    region_start (word_exponent upper) (word_b upper) old % 2 ^ 64 ≡ region_start (word_exponent upper) (word_b upper) new % 2 ^ 64 →
    raw_base upper new ≡ raw_base upper old
unfolding raw_base
base_from_start upper old new same = omega arith

-- and to equal tops
pub top_from_start_of_word : (upper old new : ℕ) →
    region_start (word_exponent upper) (word_b upper) old % 2 ^ 64 ≡ region_start (word_exponent upper) (word_b upper) new % 2 ^ 64 →
    raw_top upper new ≡ raw_top upper old
unfolding raw_top uncorrected_top
top_from_start_of_word upper old new same =
    let equal : raw_base upper new ≡ raw_base upper old = base_from_start upper old new same in
    rw equal
    (top_alike (word_exponent upper) (word_b upper) (raw_base upper old) old new
    (region_offset (word_exponent upper) (word_b upper) (word_t14 upper))
    (word_exponent_at_most upper) (raw_base_lt upper old) same)
