-- Things that are numbered once, in the order in which they came.
use Rattle.std.specs.Prelude.{◌≡◌, ◌≢◌, ℕ, List, [], ◌∷◌, ◌++◌, length, slice_get, Option, Some}
use Rattle.std.specs.Prelude.{None, ◌⊎◌, ◌+◌}
use Rattle.std.specs.Prelude.{option_map, option_and_then}

-- nothing got another number
abbrev pub Extends : {A : Type 0} → List A → List A → Type 0
Extends {A} old new = (i : ℕ) (x : A) → slice_get old i ≡ Some x → slice_get new i ≡ Some x

-- nothing has two numbers
abbrev pub IsDistinct : {A : Type 0} → List A → Type 0
IsDistinct {A} xs = (i k : ℕ) (x : A) → slice_get xs i ≡ Some x → slice_get xs k ≡ Some x → i ≡ k

-- something has this number: it was there, and nothing changed, or it is the new last one
abbrev pub IsNumbered : {A : Type 0} → List A → List A → A → ℕ → Type 0
IsNumbered {A} old new x number =
    (slice_get new number ≡ Some x)
    × ((new ≡ old) ⊎ ((new ≡ old ++ x ∷ []) × (number ≡ length old)))

-- nothing was added, or what has this number is the new last one
abbrev pub IsThereOrLast : {A : Type 0} → List A → List A → ℕ → Type 0
IsThereOrLast old new number =
    (new ≡ old) ⊎ ((length new ≡ length old + 1) × (number ≡ length old))

-- what each of these numbers means, if all of them mean something
unfoldable pub each : {A : Type 0} → (ℕ → Option A) → List ℕ → Option (List A)
each f [] = Some []
each f (i ∷ is) = option_and_then (λ x. option_map (λ xs. x ∷ xs) (each f is)) (f i)
