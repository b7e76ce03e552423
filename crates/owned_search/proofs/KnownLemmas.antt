-- Numbers that are known, each in a place.
use Rattle.std.proofs.Common.{◌≡◌, ℕ, zero, suc, List, [], ◌∷◌, ◌++◌, refl, ap, inl, inr, ◌⊎◌}
use Rattle.std.specs.Prelude.{Option, Some, None, slice_get, slice_set}
use Rattle.std.proofs.lemmas.Option.{none-some}

-- a place in which none is known adds none
pub none_pushed : (known : List (Option ℕ)) (k n : ℕ) → slice_get (known ++ None ∷ []) k ≡ Some (Some n) →
    slice_get known k ≡ Some (Some n)
none_pushed [] zero n is = absurd (cc)
none_pushed [] (suc k) n is = absurd (none-some (Some n) is)
none_pushed (x ∷ known) zero n is = is
none_pushed (x ∷ known) (suc k) n is = none_pushed known k n is

pub one_put : (known : List (Option ℕ)) (place number k n : ℕ) → slice_get (slice_set known place (Some number)) k ≡ Some (Some n) →
    (slice_get known k ≡ Some (Some n)) ⊎ ((k ≡ place) × (n ≡ number))
one_put [] place number k n is = absurd (none-some (Some n) is)
one_put (x ∷ known) zero number zero n is = let same : n ≡ number = cc in inr (refl, same)
one_put (x ∷ known) zero number (suc k) n is = inl is
one_put (x ∷ known) (suc place) number zero n is = inl is
one_put (x ∷ known) (suc place) number (suc k) n is = elim (one_put known place number k n is) [
  | inl there ↦ inl there
  | inr this ↦ inr (ap suc this.0, this.1)
]
