-- What is so of things that are numbered, and of lists of their numbers.
use Rattle.std.proofs.Common.{◌≡◌, ℕ, zero, suc, ◌+◌, ◌<◌, List, [], ◌∷◌, ◌++◌, length, arith, ap, sym, ◌∙◌, refl, inl, inr, ◌⊎◌, subst}
use Rattle.std.specs.Prelude.{Option, Some, None, IsSome, option_map, option_and_then, slice_get, slice_set}
use Rattle.std.proofs.lemmas.Option.{none-some, same_Some}
use Rattle.interner.specs.Rows.{Rows, IsInterned}
use Rattle.state_store.specs.Numbered.{Extends, IsDistinct, IsNumbered, each}

pub get-append : {A : Type 0} (xs ys : List A) (i : ℕ) (x : A) → slice_get xs i ≡ Some x →
    slice_get (xs ++ ys) i ≡ Some x
get-append [] ys i x is = absurd (none-some x is)
get-append (z ∷ zs) ys zero x is = is
get-append (z ∷ zs) ys (suc i) x is = get-append zs ys i x is

pub numbered_extends : {A : Type 0} (old new : List A) (x : A) (n : ℕ) → IsNumbered old new x n → Extends old new
numbered_extends {A} old new x n h i y is = elim h.1 [
  | inl same ↦ ap (λ (zs : List A). slice_get zs i) same ∙ is
  | inr added ↦ ap (λ (zs : List A). slice_get zs i) added.0 ∙ get-append old (x ∷ []) i y is
]

pub extends_self : {A : Type 0} (xs : List A) → Extends xs xs
extends_self {A} xs i x is = is

pub extends_on : {A : Type 0} (xs ys zs : List A) → Extends xs ys → Extends ys zs → Extends xs zs
extends_on {A} xs ys zs f g i x is = g i x (f i x is)

pub map_some : {A B : Type 0} (g : A → B) (o : Option A) (y : B) → option_map g o ≡ Some y →
    (x : A) × (o ≡ Some x) × (g x ≡ y)
map_some {A} {B} g None y is = absurd (none-some y is)
map_some {A} {B} g (Some x) y is = (x, refl, same_Some (g x) y is)

pub some_of : {A : Type 0} (o : Option A) → IsSome o → (x : A) × (o ≡ Some x)
some_of None some = absurd (cc)
some_of (Some x) some = (x, refl)

pub then_some : {A B : Type 0} (g : A → Option B) (o : Option A) (y : B) → option_and_then g o ≡ Some y →
    (x : A) × (o ≡ Some x) × (g x ≡ Some y)
then_some {A} {B} g None y is = absurd (none-some y is)
then_some {A} {B} g (Some x) y is = (x, refl, is)

-- the first number's meaning, and those of the rest
pub each_parts : {A : Type 0} (f : ℕ → Option A) (i : ℕ) (is : List ℕ) (xs : List A) → each f (i ∷ is) ≡ Some xs →
    (x : A) × (ys : List A) × (f i ≡ Some x) × (each f is ≡ Some ys) × (x ∷ ys ≡ xs)
unfolding each
each_parts {A} f i is xs h =
    let first = then_some (λ (x : A). option_map (λ (ys : List A). x ∷ ys) (each f is)) (f i) xs h in
    let rest = map_some (λ (ys : List A). first.0 ∷ ys) (each f is) xs first.2 in
    (first.0, rest.0, first.1, rest.1, rest.2)

pub each_cons : {A : Type 0} (f : ℕ → Option A) (i : ℕ) (is : List ℕ) (x : A) (xs : List A) →
    f i ≡ Some x → each f is ≡ Some xs → each f (i ∷ is) ≡ Some (x ∷ xs)
unfolding each
each_cons {A} f i is x xs first rest =
    ap (λ (o : Option A). option_and_then (λ (y : A). option_map (λ (ys : List A). y ∷ ys) (each f is)) o) first
    ∙ ap (λ (o : Option (List A)). option_map (λ (ys : List A). x ∷ ys) o) rest

each_none : {A : Type 0} (f : ℕ → Option A) → each f [] ≡ Some []
unfolding each
each_none {A} f = refl

no_item : {A B : Type 0} (x : A) (xs : List A) → x ∷ xs ≡ [] → B
no_item {A} {B} x xs same = absurd (cc)

same_items : {A : Type 0} (x y : A) (xs ys : List A) → x ∷ xs ≡ y ∷ ys → (x ≡ y) × (xs ≡ ys)
same_items {A} x y xs ys same =
    (same_Some x y (ap (λ (l : List A). slice_get l 0) same), ap tail same)
  where
    tail : List A → List A
    tail [] = []
    tail (z ∷ zs) = zs

-- meanings that are kept
pub each_kept : {A : Type 0} (f g : ℕ → Option A) → ((i : ℕ) (x : A) → f i ≡ Some x → g i ≡ Some x) →
    (is : List ℕ) (xs : List A) → each f is ≡ Some xs → each g is ≡ Some xs
each_kept {A} f g kept [] xs h = each_none g ∙ (sym (each_none f) ∙ h)
each_kept {A} f g kept (i ∷ is) xs h =
    let p = each_parts f i is xs h in
    each_cons g i is p.0 p.1 (kept i p.0 p.2) (each_kept f g kept is p.1 p.3) ∙ ap (λ (l : List A). Some l) p.4

-- meanings that differ for different numbers
pub each_one : {A : Type 0} (f : ℕ → Option A) → ((i k : ℕ) (x : A) → f i ≡ Some x → f k ≡ Some x → i ≡ k) →
    (is ks : List ℕ) (xs : List A) → each f is ≡ Some xs → each f ks ≡ Some xs → is ≡ ks
each_one {A} f one [] [] xs h j = refl
each_one {A} f one [] (k ∷ ks) xs h j =
    let p = each_parts f k ks xs j in
    no_item p.0 p.1 (p.4 ∙ sym (same_Some [] xs (sym (each_none f) ∙ h)))
each_one {A} f one (i ∷ is) [] xs h j =
    let p = each_parts f i is xs h in
    no_item p.0 p.1 (p.4 ∙ sym (same_Some [] xs (sym (each_none f) ∙ j)))
each_one {A} f one (i ∷ is) (k ∷ ks) xs h j =
    let p = each_parts f i is xs h in
    let q = each_parts f k ks xs j in
    let same = same_items p.0 q.0 p.1 q.1 (p.4 ∙ sym q.4) in
    let first = one i k q.0 (p.2 ∙ ap (λ (x : A). Some x) same.0) q.2 in
    let rest = each_one f one is ks q.1 (p.3 ∙ ap (λ (l : List A). Some l) same.1) q.3 in
    ap (λ (n : ℕ). n ∷ is) first ∙ ap (λ (l : List ℕ). k ∷ l) rest

pub each_length : {A : Type 0} (f : ℕ → Option A) (is : List ℕ) (xs : List A) → each f is ≡ Some xs →
    length is ≡ length xs
each_length {A} f [] xs h = ap length (same_Some [] xs (sym (each_none f) ∙ h))
each_length {A} f (i ∷ is) xs h =
    let p = each_parts f i is xs h in
    ap suc (each_length f is p.1 p.3) ∙ ap length p.4

-- one of the numbers, and its meaning
pub each_get : {A : Type 0} (f : ℕ → Option A) (is : List ℕ) (xs : List A) (k i : ℕ) → each f is ≡ Some xs →
    slice_get is k ≡ Some i → f i ≡ slice_get xs k
each_get {A} f [] xs k i h at = absurd (none-some i at)
each_get {A} f (n ∷ is) xs zero i h at =
    let p = each_parts f n is xs h in
    ap f (sym (same_Some n i at)) ∙ (p.2 ∙ ap (λ (l : List A). slice_get l 0) p.4)
each_get {A} f (n ∷ is) xs (suc k) i h at =
    let p = each_parts f n is xs h in
    each_get f is p.1 k i p.3 at ∙ ap (λ (l : List A). slice_get l (suc k)) p.4

-- another number in one place
pub each_set : {A : Type 0} (f : ℕ → Option A) (is : List ℕ) (xs : List A) (k i : ℕ) (x : A) → each f is ≡ Some xs →
    f i ≡ Some x → each f (slice_set is k i) ≡ Some (slice_set xs k x)
each_set {A} f [] xs k i x h means =
    let none : [] ≡ xs = same_Some [] xs (sym (each_none f) ∙ h) in
    subst (λ (l : List A). each f (slice_set [] k i) ≡ Some (slice_set l k x)) none (each_none f)
each_set {A} f (n ∷ is) xs zero i x h means =
    let p = each_parts f n is xs h in
    subst (λ (l : List A). each f (slice_set (n ∷ is) 0 i) ≡ Some (slice_set l 0 x)) p.4
    (each_cons f i is x p.1 means p.3)
each_set {A} f (n ∷ is) xs (suc k) i x h means =
    let p = each_parts f n is xs h in
    subst (λ (l : List A). each f (slice_set (n ∷ is) (suc k) i) ≡ Some (slice_set l (suc k) x)) p.4
    (each_cons f n (slice_set is k i) p.0 (slice_set p.1 k x) p.2 (each_set f is p.1 k i x p.3 means))

-- each number means what is in its place
pub each_of : {A : Type 0} (f : ℕ → Option A) (is : List ℕ) (xs : List A) → length is ≡ length xs →
    ((k i : ℕ) (x : A) → slice_get is k ≡ Some i → slice_get xs k ≡ Some x → f i ≡ Some x) →
    each f is ≡ Some xs
each_of {A} f [] [] same means = each_none f
each_of {A} f [] (x ∷ xs) same means = absurd (omega arith)
each_of {A} f (i ∷ is) [] same means = absurd (omega arith)
each_of {A} f (i ∷ is) (x ∷ xs) same means =
    let rest : length is ≡ length xs = omega arith in
    each_cons f i is x xs (means 0 i x refl refl)
    (each_of f is xs rest (λ k n y at there. means (suc k) n y at there))

pub interned_extends : (old new : Rows) (row : List ℕ) (n : ℕ) → IsInterned old new row n → Extends old.rows new.rows
interned_extends old new row n h i x is = elim h.1 [
  | inl same ↦ ap (λ (t : Rows). slice_get t.rows i) same ∙ is
  | inr added ↦ ap (λ (t : Rows). slice_get t.rows i) added.0 ∙ get-append old.rows (row ∷ []) i x is
]
