-- What is at a place of a list after a write, and what a write to a register leaves in each place.
use Rattle.std.proofs.Common.{◌≡◌, ℕ, ◌==◌, ◌<◌, ◌≤◌, Bool, true, false, List, [], ◌∷◌, refl, sym, ap, ◌∙◌, arith, inl, inr, length, eqb-true}
use Rattle.std.specs.Prelude.{if◌then◌else◌, map, All, slice_index_or, slice_set}
use Rattle.std.proofs.lemmas.Bool.{cases_lt, cases_Bool, eqb-false}
use Rattle.std.proofs.lemmas.List.{get_or_past, get_or-map, length-set, length-map, get_or-set_same, get_or-set_other}

-- what holds of the default and of each element holds at each place
pub at_each : {X : Type 0} (P : X → Type 0) (xs : List X) (n : ℕ) (d : X) → P d → All P xs → P (slice_index_or xs n d)
at_each P xs n d past each = elim (cases_lt n (length xs)) [
  | inl inside ↦ each n d inside
  | inr outside ↦ rw (get_or_past xs n d outside) past
]

-- at a place of a map
pub at_map : {X : Type 0} (P : X → Type 0) (f : X → X) (xs : List X) (n : ℕ) (d : X) → P d → P (f (slice_index_or xs n d)) →
    P (slice_index_or (map f xs) n d)
at_map P f xs n d past here = elim (cases_lt n (length xs)) [
  | inl inside ↦ rw (get_or-map f xs n d d inside) here
  | inr outside ↦ rw (get_or_past (map f xs) n d (let h = outside in omega (arith, length-map xs f))) past
]

-- where it was written, and elsewhere
pub at_set : {X : Type 0} (P : X → Type 0) (xs : List X) (i n : ℕ) (x d : X) → P d →
    ((i == n) ≡ true → P x) → ((i == n) ≡ false → P (slice_index_or xs n d)) → P (slice_index_or (slice_set xs i x) n d)
at_set P xs i n x d past here elsewhere = elim (cases_Bool (i == n)) [
  | inl same ↦
      let is : i ≡ n = eqb-true i n same in
      elim (cases_lt i (length xs)) [
        | inl inside ↦ rw (← is, get_or-set_same xs i x d inside) (here same)
        | inr outside ↦ rw (get_or_past (slice_set xs i x) n d (omega (arith, length-set xs i x))) past
      ]
  | inr other ↦ rw (get_or-set_other xs i n x d (λ e. eqb-false i n other (sym e))) (elsewhere other)
]
