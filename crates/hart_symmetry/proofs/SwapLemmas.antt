-- Two numbers, each in the other's place.
use Rattle.std.proofs.Common.{◌≡◌, ◌≢◌, ℕ, refl, sym, ap, ◌∙◌, inl, inr}
use Rattle.std.specs.Prelude.{◌==◌, if◌then◌else◌}
use Rattle.std.proofs.lemmas.Bool.{cases_eq, eq-eqb, ne_eqb}

unfoldable pub swapped : ℕ → ℕ → ℕ → ℕ
swapped a b n = if n == a then b else if n == b then a else n

pub at_first : (a b : ℕ) → swapped a b a ≡ b
unfolding swapped
at_first a b = rw (eq-eqb a a refl)

pub at_second : (a b : ℕ) → swapped a b b ≡ a
unfolding swapped
at_second a b = elim (cases_eq b a) [
  | inl same ↦ rw (eq-eqb b a same) same
  | inr other ↦ rw (ne_eqb b a other, eq-eqb b b refl)
]

pub elsewhere : (a b n : ℕ) → n ≢ a → n ≢ b → swapped a b n ≡ n
unfolding swapped
elsewhere a b n one two = rw (ne_eqb n a one, ne_eqb n b two)

pub twice : (a b n : ℕ) → swapped a b (swapped a b n) ≡ n
twice a b n = elim (cases_eq n a) [
  | inl first ↦
      ap (λ (k : ℕ). swapped a b (swapped a b k)) first
      ∙ (ap (swapped a b) (at_first a b) ∙ (at_second a b ∙ sym first))
  | inr one ↦ elim (cases_eq n b) [
    | inl second ↦
        ap (λ (k : ℕ). swapped a b (swapped a b k)) second
        ∙ (ap (swapped a b) (at_second a b) ∙ (at_first a b ∙ sym second))
    | inr two ↦ ap (swapped a b) (elsewhere a b n one two) ∙ elsewhere a b n one two
  ]
]
