-- The search for the least number that passes a test: what `first_from` answers.
use Rattle.std.proofs.Common.{◌≡◌, ℕ, zero, suc, ◌+◌, ◌<◌, ◌≤◌, Bool, true, false, refl, inl, inr, arith}
use Rattle.std.proofs.lemmas.Bool.{cases_lt}
use Rattle.cap_model.specs.bounds.Numbers.{first_from}

-- what a number must be to be the first that passes, of the `tries` numbers from k on
record IsFirst (test : ℕ → Bool) (tries k found : ℕ) : Type 0 where
  from : k ≤ found
  within : found ≤ k + tries
  passes : found < k + tries → test found ≡ true
  before : (n : ℕ) → k ≤ n → n < found → test n ≡ false

first_here : (test : ℕ → Bool) (tries k : ℕ) → test k ≡ true → IsFirst test (suc tries) k k
first_here test tries k h = record {
  from = omega arith;
  within = omega arith;
  passes = λ _. h;
  before = λ n p q. absurd (omega arith);
}

first_later : (test : ℕ → Bool) (tries k found : ℕ) → test k ≡ false → IsFirst test tries (suc k) found → IsFirst test (suc tries) k found
first_later test tries k found h later = record {
  from = omega arith;
  within = omega arith;
  passes = λ p. later.passes (omega arith);
  before = λ n p q. elim (cases_lt k n) [ inl above ↦ later.before n (omega arith) q | inr not_above ↦ (let e : n ≡ k = omega arith in rw e h) ];
}

search_step : (test : ℕ → Bool) (tries k : ℕ) (b : Bool) → test k ≡ b → IsFirst test tries (suc k) (first_from test tries (suc k)) → IsFirst test (suc tries) k (first_from test (suc tries) k)
unfolding first_from
search_step test tries k true h later = rw h (first_here test tries k h)
search_step test tries k false h later = rw h (first_later test tries k _ h later)

first_from_is_first : (test : ℕ → Bool) (tries k : ℕ) → IsFirst test tries k (first_from test tries k)
unfolding first_from
first_from_is_first test zero k = record {
  from = omega arith;
  within = omega arith;
  passes = λ p. absurd (omega arith);
  before = λ n p q. absurd (omega arith);
}
first_from_is_first test (suc tries) k = search_step test tries k (test k) refl (first_from_is_first test tries (suc k))

-- it is no lower than where the search begins
pub first_from_from : (test : ℕ → Bool) (tries k : ℕ) → k ≤ first_from test tries k
first_from_from test tries k = (first_from_is_first test tries k).from

-- it is no higher than where the search ends
pub first_from_within : (test : ℕ → Bool) (tries k : ℕ) → first_from test tries k ≤ k + tries
first_from_within test tries k = (first_from_is_first test tries k).within

-- no earlier number passes
pub first_from_before : (test : ℕ → Bool) (tries k n : ℕ) → k ≤ n → n < first_from test tries k → test n ≡ false
first_from_before test tries k n from before = (first_from_is_first test tries k).before n from before

-- it is at most each number that passes
pub first_from_least : (test : ℕ → Bool) (tries k n : ℕ) → k ≤ n → test n ≡ true → first_from test tries k ≤ n
first_from_least test tries k n from passes =
    elim (cases_lt n (first_from test tries k)) [
      | inl before ↦ (let none : test n ≡ false = first_from_before test tries k n from before in cc)
      | inr not_before ↦ not_before
    ]

-- it passes, where one of the numbers that are tried does
pub first_from_passes : (test : ℕ → Bool) (tries k n : ℕ) → k ≤ n → n < k + tries → test n ≡ true → test (first_from test tries k) ≡ true
first_from_passes test tries k n from within passes =
    (first_from_is_first test tries k).passes (omega (arith, first_from_least test tries k n from passes))

-- a number that passes is the answer, where none before it passes
pub first_from_is : (test : ℕ → Bool) (tries k n : ℕ) → k ≤ n → n ≤ k + tries → test n ≡ true → ((m : ℕ) → k ≤ m → m < n → test m ≡ false) → first_from test tries k ≡ n
first_from_is test tries k n from within passes none =
    elim (cases_lt (first_from test tries k) n) [
      | inl before ↦ (
          let found : test (first_from test tries k) ≡ true = (first_from_is_first test tries k).passes (omega arith) in
          let not_found : test (first_from test tries k) ≡ false = none _ (first_from_from test tries k) before in
          absurd (cc))
      | inr not_before ↦ omega (arith, first_from_least test tries k n from passes)
    ]

-- what a search answers
pub ruleset search_laws = (first_from_least, first_from_from, first_from_within)
