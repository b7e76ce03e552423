-- Of how many numbers something holds doesn't depend on their order.
use Rattle.std.proofs.Common.{◌≡◌, ◌≢◌, ℕ, zero, suc, ◌+◌, ◌<◌, ◌≤◌, refl, sym, ap, ◌∙◌, inl, inr, arith}
use Rattle.std.specs.Prelude.{Bool, ◌==◌, if◌then◌else◌}
use Rattle.std.proofs.lemmas.Bool.{cases_eq, cases_lt, eq-eqb, ne_eqb}
use Rattle.conditions.specs.Holding.{how_many}
use Rattle.hart_symmetry.proofs.SwapLemmas.{swapped, at_first, at_second, elsewhere, twice}

-- 1 where it holds
abbrev one_if : (ℕ → Bool) → ℕ → ℕ
one_if p n = if p n then 1 else 0

pub how_many_same : (p q : ℕ → Bool) (count : ℕ) → ((n : ℕ) → n < count → p n ≡ q n) → how_many p count ≡ how_many q count
unfolding how_many
how_many_same p q zero same = refl
how_many_same p q (suc n) same =
    ap (λ (k : ℕ). k + one_if p n) (how_many_same p q n (λ i low. same i (omega arith)))
    ∙ ap (λ (b : Bool). how_many q n + (if b then 1 else 0)) (same n (omega arith))

-- two tests that differ at one number alone
one_differs : (p q : ℕ → Bool) (at count : ℕ) → ((n : ℕ) → n ≢ at → p n ≡ q n) → at < count →
    how_many p count + one_if q at ≡ how_many q count + one_if p at
unfolding how_many
one_differs p q at zero same low = absurd (omega arith)
one_differs p q at (suc n) same low = elim (cases_eq n at) [
  | inl here ↦
      let rest : how_many p n ≡ how_many q n = how_many_same p q n (λ i below. same i (λ is. absurd (omega arith))) in
      let one : one_if p n ≡ one_if p at = ap (one_if p) here in
      let two : one_if q n ≡ one_if q at = ap (one_if q) here in
      omega arith
  | inr other ↦
      let rest = one_differs p q at n same (omega arith) in
      let last : one_if p n ≡ one_if q n = ap (λ (b : Bool). if b then 1 else 0) (same n other) in
      omega arith
]

-- ---- two numbers, each in the other's place

-- a test that says of the first what another says of the second
unfoldable put_first : (ℕ → Bool) → ℕ → ℕ → ℕ → Bool
put_first p a b n = if n == a then p b else p n

first_put : (p : ℕ → Bool) (a b : ℕ) → put_first p a b a ≡ p b
unfolding put_first
first_put p a b = rw (eq-eqb a a refl)

others_put : (p : ℕ → Bool) (a b n : ℕ) → n ≢ a → put_first p a b n ≡ p n
unfolding put_first
others_put p a b n other = rw (ne_eqb n a other)

how_many_swapped : (p : ℕ → Bool) (a b count : ℕ) → a < count → b < count →
    how_many (λ n. p (swapped a b n)) count ≡ how_many p count
how_many_swapped p a b count low high = elim (cases_eq b a) [
  | inl same ↦
      how_many_same (λ n. p (swapped a b n)) p count (λ n below. elim (cases_eq n a) [
        | inl here ↦ ap p (ap (swapped a b) here ∙ (at_first a b ∙ (same ∙ sym here)))
        | inr other ↦ ap p (elsewhere a b n other (λ is. other (is ∙ same)))
      ])
  | inr apart ↦
      let half = put_first p a b in
      let both : ℕ → Bool = λ n. p (swapped a b n) in
      let first = one_differs p half a count (λ n other. sym (others_put p a b n other)) low in
      let same : (n : ℕ) → n ≢ b → half n ≡ both n = λ n other. elim (cases_eq n a) [
        | inl here ↦
            ap half here ∙ (first_put p a b ∙ (sym (ap p (at_first a b)) ∙ sym (ap both here)))
        | inr elses ↦ others_put p a b n elses ∙ sym (ap p (elsewhere a b n elses other))
      ] in
      let second = one_differs half both b count same high in
      let at_a : one_if half a ≡ one_if p b = ap (λ (x : Bool). if x then 1 else 0) (first_put p a b) in
      let at_b : one_if half b ≡ one_if p b = ap (λ (x : Bool). if x then 1 else 0) (others_put p a b b apart) in
      let and_b : one_if both b ≡ one_if p a = ap (λ (x : ℕ). if p x then 1 else 0) (at_second a b) in
      omega (arith, first, second, at_a, at_b, and_b)
]

-- ---- numbers in another order

-- a number below which all are brought back from has its own below it
low_too : (from to : ℕ → ℕ) (n : ℕ) → ((i : ℕ) → to (from i) ≡ i) → ((i : ℕ) → suc n ≤ i → from i ≡ i) → from n < suc n
low_too from to n there beyond = elim (cases_lt (from n) (suc n)) [
  | inl low ↦ low
  | inr past ↦
      let still : from n ≡ n = sym (there (from n)) ∙ (ap to (beyond (from n) past) ∙ there n) in
      absurd (omega arith)
]

pub how_many_renamed : (n : ℕ) (p : ℕ → Bool) (from to : ℕ → ℕ) → ((i : ℕ) → to (from i) ≡ i) →
    ((i : ℕ) → from (to i) ≡ i) → ((i : ℕ) → n ≤ i → from i ≡ i) → how_many (λ i. p (from i)) n ≡ how_many p n
unfolding how_many
how_many_renamed zero p from to there back beyond = refl
how_many_renamed (suc n) p from to there back beyond =
    let last = from n in
    let low = low_too from to n there beyond in
    let before : ℕ → ℕ = λ i. swapped n last (from i) in
    let behind : ℕ → ℕ = λ i. to (swapped n last i) in
    let stays : (i : ℕ) → n ≤ i → before i ≡ i = λ i past. elim (cases_eq i n) [
      | inl here ↦ ap before here ∙ (at_second n last ∙ sym here)
      | inr other ↦
          ap (swapped n last) (beyond i (omega arith)) ∙ elsewhere n last i other (λ is. absurd (omega arith))
    ] in
    let q : ℕ → Bool = λ i. p (swapped n last i) in
    let fewer = how_many_renamed n q before behind
    (λ i. ap to (twice n last (from i)) ∙ there i)
    (λ i. ap (swapped n last) (back (swapped n last i)) ∙ twice n last i)
    stays in
    how_many_same (λ i. p (from i)) (λ i. q (before i)) (suc n) (λ i below. sym (ap p (twice n last (from i))))
    ∙ (ap (λ (k : ℕ). k + one_if (λ i. q (before i)) n) fewer
    ∙ (ap (λ (i : ℕ). how_many q n + (if q i then 1 else 0)) (stays n (omega arith))
    ∙ how_many_swapped p n last (suc n) (omega arith) low))
