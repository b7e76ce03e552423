-- Numbers of runs stand in one way in spans that ascend and don't touch.
use Rattle.std.proofs.Common.{◌≡◌, ℕ, ◌+◌, ◌<◌, ◌≤◌, List, [], ◌∷◌, refl, inl, inr, arith}
use Rattle.std.proofs.lemmas.Bool.{cases_lt}
use Rattle.std.specs.Prelude.{◌↔◌}
use Rattle.sample_texts.specs.declared.spans.Span.{Span}
use Rattle.sample_merges.specs.Spans.{AscendFrom, HasRun}
use Rattle.sample_merges.proofs.SpanLemmas.{after_span, ascending, from_on, has_cons, none_has, of_cons}

SameRuns : List Span → List Span → Type 0
SameRuns xs ys = (run : ℕ) → HasRun xs run ↔ HasRun ys run

-- the first of a list has its first and its last number
has_first : (n : ℕ) (x : Span) (xs : List Span) → AscendFrom n (x ∷ xs) → HasRun (x ∷ xs) x.first
has_first n x xs a = let p = ascending n x xs a in has_cons x xs x.first (inl (omega arith, p.some))

has_last : (n : ℕ) (x : Span) (xs : List Span) → AscendFrom n (x ∷ xs) → HasRun (x ∷ xs) x.last
has_last n x xs a = let p = ascending n x xs a in has_cons x xs x.last (inl (p.some, omega arith))

-- no run comes before the first number
from_first : (n : ℕ) (x : Span) (xs : List Span) (run : ℕ) → AscendFrom n (x ∷ xs) → HasRun (x ∷ xs) run → x.first ≤ run
from_first n x xs run a h =
    let p = ascending n x xs a in
    elim (of_cons x xs run h) [
      | inl i ↦ i.0
      | inr m ↦ let later = after_span n x xs a run m in omega (arith, later, p.some)
    ]

-- the number after a span is missing
gap_after : (n : ℕ) (x : Span) (xs : List Span) → AscendFrom n (x ∷ xs) → HasRun (x ∷ xs) (x.last + 1) → ⊥
gap_after n x xs a h =
    let p = ascending n x xs a in
    elim (of_cons x xs (x.last + 1) h) [
      | inl i ↦ omega (arith, i.1)
      | inr m ↦ let later = from_on (x.last + 2) xs p.rest (x.last + 1) m in omega (arith, later)
    ]

-- what one list has up to the end of its first span, the other has in its first span
not_longer : (n m : ℕ) (x y : Span) (xs ys : List Span) → AscendFrom n (x ∷ xs) → AscendFrom m (y ∷ ys) → SameRuns (x ∷ xs) (y ∷ ys)
    → x.first ≡ y.first → x.last < y.last → ⊥
unfolding SameRuns
not_longer n m x y xs ys a b same firsts longer =
    let p = ascending n x xs a in
    let there : HasRun (y ∷ ys) (x.last + 1) = has_cons y ys (x.last + 1) (inl (omega (arith, p.some, firsts), omega (arith, longer))) in
    gap_after n x xs a ((same (x.last + 1)).1 there)

swapped : (xs ys : List Span) → SameRuns xs ys → SameRuns ys xs
unfolding SameRuns
swapped xs ys same run = let s = same run in (s.1, s.0)

firsts_same : (n m : ℕ) (x y : Span) (xs ys : List Span) → AscendFrom n (x ∷ xs) → AscendFrom m (y ∷ ys) → SameRuns (x ∷ xs) (y ∷ ys)
    → x.first ≡ y.first
unfolding SameRuns
firsts_same n m x y xs ys a b same =
    let low = from_first m y ys x.first b ((same x.first).0 (has_first n x xs a)) in
    let high = from_first n x xs y.first a ((same y.first).1 (has_first m y ys b)) in
    omega (arith, low, high)

lasts_same : (n m : ℕ) (x y : Span) (xs ys : List Span) → AscendFrom n (x ∷ xs) → AscendFrom m (y ∷ ys) → SameRuns (x ∷ xs) (y ∷ ys)
    → x.first ≡ y.first → x.last ≡ y.last
lasts_same n m x y xs ys a b same firsts =
    elim (cases_lt x.last y.last) as (λ _. x.last ≡ y.last) [
      | inl lt ↦ absurd (not_longer n m x y xs ys a b same firsts lt)
      | inr le ↦ elim (cases_lt y.last x.last) as (λ _. x.last ≡ y.last) [
        | inl gt ↦ absurd (not_longer m n y x ys xs b a (swapped (x ∷ xs) (y ∷ ys) same) (omega (arith, firsts)) gt)
        | inr ge ↦ omega (arith, le, ge)
      ]
    ]

-- the spans after the first have the same runs, too
rest_has : (n m : ℕ) (x y : Span) (xs ys : List Span) → AscendFrom n (x ∷ xs) → x.last ≡ y.last → ((run : ℕ) → HasRun (x ∷ xs) run → HasRun (y ∷ ys) run)
    → (run : ℕ) → HasRun xs run → HasRun ys run
rest_has n m x y xs ys a lasts same run h =
    let later = after_span n x xs a run h in
    elim (of_cons y ys run (same run (has_cons x xs run (inr h)))) as (λ _. HasRun ys run) [
      | inl i ↦ absurd (omega (arith, later, i.1, lasts))
      | inr k ↦ k
    ]

spans_equal : (x y : Span) (xs ys : List Span) → x.first ≡ y.first → x.last ≡ y.last → xs ≡ ys → x ∷ xs ≡ y ∷ ys
spans_equal x y xs ys first last rest = λ i. record { first = first i; last = last i } ∷ rest i

pub spans_unique : (n m : ℕ) (xs ys : List Span) → AscendFrom n xs → AscendFrom m ys → ((run : ℕ) → HasRun xs run ↔ HasRun ys run) → xs ≡ ys
unfolding SameRuns
spans_unique n m [] [] a b same = refl
spans_unique n m [] (y ∷ ys) a b same = absurd (none_has y.first ((same y.first).1 (has_first m y ys b)))
spans_unique n m (x ∷ xs) [] a b same = absurd (none_has x.first ((same x.first).0 (has_first n x xs a)))
spans_unique n m (x ∷ xs) (y ∷ ys) a b same =
    let first = firsts_same n m x y xs ys a b same in
    let last = lasts_same n m x y xs ys a b same first in
    let back : y.last ≡ x.last = omega (arith, last) in
    spans_equal x y xs ys first last
    (spans_unique (x.last + 2) (y.last + 2) xs ys (ascending n x xs a).rest (ascending m y ys b).rest
    (λ run. (rest_has n m x y xs ys a last (λ r. (same r).0) run, rest_has m n y x ys xs b back (λ r. (same r).1) run)))
