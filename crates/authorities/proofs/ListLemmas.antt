-- Lists of authorities.
use Rattle.std.proofs.Common.{◌≡◌, ℕ, zero, suc, ◌<◌, List, [], ◌∷◌, ◌++◌, arith, ap, sym, ◌∙◌, refl, inl, inr, ◌⊎◌, subst}
use Rattle.std.specs.Prelude.{Some, Bool, true, false, filter, slice_get, cond}
use Rattle.std.proofs.lemmas.Bool.{cases_Bool}
use Rattle.std.proofs.lemmas.Option.{none-some, same_Some}
use Rattle.authorities.specs.declared.rights.Authority.{Authority}
use Rattle.explore_rights.specs.Rights.{is_before}
use Rattle.authorities.specs.Gathering.{IsIn, IsBeforeAll, IsSorted}
use Rattle.explore_rights.proofs.RightsLemmas.{true_false}

pub in_get : (a : Authority) (xs : List Authority) → IsIn a xs → (k : ℕ) × (slice_get xs k ≡ Some a)
in_get a [] is = absurd is
in_get a (x ∷ xs) is = elim is [
  | inl here ↦ (0, ap Some here)
  | inr later ↦ let k = in_get a xs later in (suc k.0, k.1)
]

pub get_in : (a : Authority) (xs : List Authority) (k : ℕ) → slice_get xs k ≡ Some a → IsIn a xs
get_in a [] k is = absurd (none-some a is)
get_in a (x ∷ xs) zero is = inl (same_Some x a is)
get_in a (x ∷ xs) (suc k) is = inr (get_in a xs k is)

pub in_left : (a : Authority) (xs ys : List Authority) → IsIn a xs → IsIn a (xs ++ ys)
in_left a [] ys is = absurd is
in_left a (x ∷ xs) ys is = elim is [
  | inl here ↦ inl here
  | inr later ↦ inr (in_left a xs ys later)
]

pub in_right : (a : Authority) (xs ys : List Authority) → IsIn a ys → IsIn a (xs ++ ys)
in_right a [] ys is = is
in_right a (x ∷ xs) ys is = inr (in_right a xs ys is)

pub in_either : (a : Authority) (xs ys : List Authority) → IsIn a (xs ++ ys) → IsIn a xs ⊎ IsIn a ys
in_either a [] ys is = inr is
in_either a (x ∷ xs) ys is = elim is [
  | inl here ↦ inl (inl here)
  | inr later ↦ elim (in_either a xs ys later) [
    | inl left ↦ inl (inr left)
    | inr right ↦ inr right
  ]
]

filter_yes : (p : Authority → Bool) (x : Authority) (xs : List Authority) → p x ≡ true →
    filter p (x ∷ xs) ≡ x ∷ filter p xs
filter_yes p x xs so = ap (λ (b : Bool). cond b (x ∷ filter p xs) (filter p xs)) so

filter_no : (p : Authority → Bool) (x : Authority) (xs : List Authority) → p x ≡ false →
    filter p (x ∷ xs) ≡ filter p xs
filter_no p x xs not_so = ap (λ (b : Bool). cond b (x ∷ filter p xs) (filter p xs)) not_so

pub in_filter : (p : Authority → Bool) (a : Authority) (xs : List Authority) → IsIn a (filter p xs) →
    IsIn a xs × (p a ≡ true)
in_filter p a [] is = absurd is
in_filter p a (x ∷ xs) is = elim (cases_Bool (p x)) [
  | inl so ↦ elim (subst (IsIn a) (filter_yes p x xs so) is) [
    | inl here ↦ (inl here, ap p (sym here) ∙ so)
    | inr later ↦ let rest = in_filter p a xs later in (inr rest.0, rest.1)
  ]
  | inr not_so ↦ let rest = in_filter p a xs (subst (IsIn a) (filter_no p x xs not_so) is) in (inr rest.0, rest.1)
]

pub filter_in : (p : Authority → Bool) (a : Authority) (xs : List Authority) → IsIn a xs → p a ≡ true →
    IsIn a (filter p xs)
filter_in p a [] is passes = absurd is
filter_in p a (x ∷ xs) is passes = elim (cases_Bool (p x)) [
  | inl so ↦ subst (IsIn a) (sym (filter_yes p x xs so)) (elim is as (λ _. IsIn a (x ∷ filter p xs)) [
    | inl here ↦ inl here
    | inr later ↦ inr (filter_in p a xs later passes)
  ])
  | inr not_so ↦ subst (IsIn a) (sym (filter_no p x xs not_so)) (elim is as (λ _. IsIn a (filter p xs)) [
    | inl here ↦ absurd (true_false (p a) passes (ap p (sym here) ∙ not_so))
    | inr later ↦ filter_in p a xs later passes
  ])
]

pub before_in : (x : Authority) (ys : List Authority) → IsBeforeAll x ys → (b : Authority) → IsIn b ys →
    is_before x.rights b.rights ≡ true
before_in x [] all b is = absurd is
before_in x (y ∷ ys) all b is = elim is [
  | inl here ↦ subst (λ (c : Authority). is_before x.rights c.rights ≡ true) here all.0
  | inr later ↦ before_in x ys all.1 b later
]

pub before_all : (x : Authority) (ys : List Authority) → ((b : Authority) → IsIn b ys → is_before x.rights b.rights ≡ true) →
    IsBeforeAll x ys
before_all x [] each = tt
before_all x (y ∷ ys) each = (each y (inl refl), before_all x ys (λ b is. each b (inr is)))

pub sorted_filter : (p : Authority → Bool) (xs : List Authority) → IsSorted xs → IsSorted (filter p xs)
sorted_filter p [] sorted = tt
sorted_filter p (x ∷ xs) sorted = elim (cases_Bool (p x)) [
  | inl so ↦ subst IsSorted (sym (filter_yes p x xs so)) (
    before_all x (filter p xs) (λ b is. before_in x xs sorted.0 b (in_filter p b xs is).0),
    sorted_filter p xs sorted.1,
  )
  | inr not_so ↦ subst IsSorted (sym (filter_no p x xs not_so)) (sorted_filter p xs sorted.1)
]

pub sorted_append : (xs ys : List Authority) → IsSorted xs → IsSorted ys →
    ((a b : Authority) → IsIn a xs → IsIn b ys → is_before a.rights b.rights ≡ true) → IsSorted (xs ++ ys)
sorted_append [] ys one two apart = two
sorted_append (x ∷ xs) ys one two apart = (
  before_all x (xs ++ ys) (λ b is. elim (in_either b xs ys is) [
    | inl left ↦ before_in x xs one.0 b left
    | inr right ↦ apart x b (inl refl) right
  ]),
  sorted_append xs ys one.1 two (λ a b is js. apart a b (inr is) js),
)

pub sorted_get : (xs : List Authority) (j k : ℕ) (a b : Authority) → IsSorted xs → j < k → slice_get xs j ≡ Some a →
    slice_get xs k ≡ Some b → is_before a.rights b.rights ≡ true
sorted_get [] j k a b sorted less one two = absurd (none-some a one)
sorted_get (x ∷ xs) zero zero a b sorted less one two = absurd (omega arith)
sorted_get (x ∷ xs) zero (suc k) a b sorted less one two =
    subst (λ (c : Authority). is_before c.rights b.rights ≡ true) (same_Some x a one)
    (before_in x xs sorted.0 b (get_in b xs k two))
sorted_get (x ∷ xs) (suc j) zero a b sorted less one two = absurd (omega arith)
sorted_get (x ∷ xs) (suc j) (suc k) a b sorted less one two =
    sorted_get xs j k a b sorted.1 (omega arith) one two
