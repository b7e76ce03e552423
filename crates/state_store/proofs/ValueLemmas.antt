-- A value is one row, and how values become more.
use Rattle.std.proofs.Common.{◌≡◌, ◌≢◌, ℕ, zero, suc, ◌+◌, ◌*◌, ◌/◌, ◌%◌, ◌^◌, ◌<◌, ◌≤◌, List, [], ◌∷◌, ◌++◌, length, arith, ap, sym, ◌∙◌, refl, subst, inl, inr, map}
use Rattle.std.specs.Prelude.{Option, Some, None, option_map, slice_get, slice_index_or, All, Bool, true, false}
use Rattle.std.proofs.lemmas.Bool.{cases_lt, cases_eq}
use Rattle.std.proofs.lemmas.List.{map-append, length-map, length-append, get_or_append_left, get_or_at}
use Rattle.std.proofs.lemmas.Option.{none-some, same_Some, slice_get-map, slice_get_within, get_or_from_slice_get}
use Rattle.cap_model.specs.values.CapValue.{CapValue, bits_of, tag_of, value_at, IsLawfulValue}
use Rattle.cap_model.specs.results.Readings.{number_of}
use Rattle.cap_model.proofs.Results.Values.{value_back, value_tagged}
use Rattle.interner.specs.Rows.{Rows, IsInterned, IsRow, with_row}
use Rattle.state_store.specs.Numbered.{IsDistinct, IsNumbered}
use Rattle.state_store.specs.Values.{row_of, IsValues}
use Rattle.state_store.proofs.NumberedLemmas.{get-append, map_some}

same_tag : (a b : Bool) → number_of a ≡ number_of b → a ≡ b
same_tag true true same = refl
same_tag false false same = refl
same_tag true false same = absurd (omega arith)
same_tag false true same = absurd (omega arith)

same_bits : (x y : ℕ) → x % 2 ^ 32 ≡ y % 2 ^ 32 → x / 2 ^ 32 % 2 ^ 32 ≡ y / 2 ^ 32 % 2 ^ 32 →
    x / 2 ^ 64 % 2 ^ 32 ≡ y / 2 ^ 64 % 2 ^ 32 → x / 2 ^ 96 ≡ y / 2 ^ 96 → x ≡ y
same_bits x y a b c d = omega arith

-- two values with one row are the same
pub one_value : (v w : CapValue) → IsLawfulValue v → IsLawfulValue w → row_of v ≡ row_of w → v ≡ w
unfolding row_of
one_value v w lawful also same =
    let part : (k : ℕ) → slice_index_or (row_of v) k 0 ≡ slice_index_or (row_of w) k 0 =
    λ k. ap (λ (r : List ℕ). slice_index_or r k 0) same in
    let tag : tag_of v ≡ tag_of w = same_tag (tag_of v) (tag_of w) (part 0) in
    let bits : bits_of v ≡ bits_of w = same_bits (bits_of v) (bits_of w) (part 1) (part 2) (part 3) (part 4) in
    sym (value_back v lawful) ∙ (ap (λ (t : Bool). value_at t (bits_of v)) tag
    ∙ (ap (value_at (tag_of w)) bits ∙ value_back w also))

all_at : {A : Type 0} (P : A → Type 0) (xs : List A) (i : ℕ) (x : A) → All P xs → slice_get xs i ≡ Some x → P x
all_at {A} P xs i x all is = subst P (get_or_from_slice_get xs i x x is) (all i x (slice_get_within xs i x is))

all_more : {A : Type 0} (P : A → Type 0) (xs : List A) (x : A) → All P xs → P x → All P (xs ++ x ∷ [])
all_more {A} P xs x all is k d below =
    let count : length (xs ++ x ∷ []) ≡ length xs + 1 = length-append xs (x ∷ []) in
    elim (cases_lt k (length xs)) [
      | inl low ↦ subst P (sym (get_or_append_left xs (x ∷ []) d k low)) (all k d low)
      | inr high ↦
          let last : length xs ≡ k = omega arith in
          subst P (sym (get_or_at xs x [] d k last)) is
    ]

-- the value whose row was found
pub found_value : (table : Rows) (values : List CapValue) (v : CapValue) (n : ℕ) → IsValues table values →
    IsLawfulValue v → IsRow table n (row_of v) → slice_get values n ≡ Some v
found_value table values v n h lawful at =
    let mapped : option_map row_of (slice_get values n) ≡ Some (row_of v) =
    sym (slice_get-map row_of values n) ∙ (ap (λ (rs : List (List ℕ)). slice_get rs n) (sym h.rows) ∙ at) in
    let w = map_some row_of (slice_get values n) (row_of v) mapped in
    w.1 ∙ ap (λ (x : CapValue). Some x) (one_value w.0 v (all_at IsLawfulValue values n w.0 h.lawful w.1) lawful w.2)

pub last_item : {A : Type 0} (xs : List A) (x : A) → slice_get (xs ++ x ∷ []) (length xs) ≡ Some x
last_item [] x = refl
last_item (y ∷ ys) x = last_item ys x

pub earlier_item : {A : Type 0} (xs : List A) (x : A) (i : ℕ) (y : A) → i < length xs → slice_get (xs ++ x ∷ []) i ≡ Some y →
    slice_get xs i ≡ Some y
earlier_item [] x i y below is = absurd (omega arith)
earlier_item (z ∷ zs) x zero y below is = is
earlier_item (z ∷ zs) x (suc i) y below is = let rest : i < length zs = omega arith in earlier_item zs x i y rest is

pub distinct_more : {A : Type 0} (xs : List A) (x : A) → IsDistinct xs → ((i : ℕ) → slice_get xs i ≢ Some x) →
    IsDistinct (xs ++ x ∷ [])
distinct_more {A} xs x one absent i k y is ks =
    let count : length (xs ++ x ∷ []) ≡ length xs + 1 = length-append xs (x ∷ []) in
    let in_i : i < length (xs ++ x ∷ []) = slice_get_within (xs ++ x ∷ []) i y is in
    let in_k : k < length (xs ++ x ∷ []) = slice_get_within (xs ++ x ∷ []) k y ks in
    let last : (n : ℕ) → slice_get (xs ++ x ∷ []) n ≡ Some y → n ≡ length xs → x ≡ y = λ n at same.
    same_Some x y (sym (last_item xs x) ∙ (ap (slice_get (xs ++ x ∷ [])) (sym same) ∙ at)) in
    elim (cases_lt i (length xs)) [
      | inl low_i ↦ elim (cases_lt k (length xs)) [
        | inl low_k ↦ one i k y (earlier_item xs x i y low_i is) (earlier_item xs x k y low_k ks)
        | inr high_k ↦
            let at_k : k ≡ length xs = omega arith in
            absurd (absent i (earlier_item xs x i y low_i is ∙ ap (λ (z : A). Some z) (sym (last k ks at_k))))
      ]
      | inr high_i ↦ elim (cases_lt k (length xs)) [
        | inl low_k ↦
            let at_i : i ≡ length xs = omega arith in
            absurd (absent k (earlier_item xs x k y low_k ks ∙ ap (λ (z : A). Some z) (sym (last i is at_i))))
        | inr high_k ↦ omega arith
      ]
    ]

-- a value that was not there became the last one
pub values_more : (table table' : Rows) (values : List CapValue) (v : CapValue) (n : ℕ) → IsValues table values →
    IsLawfulValue v → ((i : ℕ) → slice_get table.rows i ≢ Some (row_of v)) → IsInterned table table' (row_of v) n →
    IsValues table' (values ++ v ∷ []) × (n ≡ length values)
values_more table table' values v n h lawful absent interned = elim interned.1 [
  | inl same ↦ absurd (absent n (ap (λ (t : Rows). slice_get t.rows n) (sym same) ∙ interned.0))
  | inr added ↦ (
    record {
      width = ap (λ (t : Rows). t.width) added.0 ∙ h.width;
      rows = ap (λ (t : Rows). t.rows) added.0 ∙ (ap (λ (rs : List (List ℕ)). rs ++ row_of v ∷ []) h.rows
          ∙ sym (map-append row_of values (v ∷ [])));
      lawful = all_more IsLawfulValue values v h.lawful lawful;
      distinct = distinct_more values v h.distinct (λ i is.
          absent i (ap (λ (rs : List (List ℕ)). slice_get rs i) h.rows
          ∙ (slice_get-map row_of values i ∙ ap (option_map row_of) is)));
    },
    added.1 ∙ (ap length h.rows ∙ length-map values row_of),
  )
]

pub numbered_last : (values : List CapValue) (v : CapValue) (n : ℕ) → n ≡ length values →
    IsNumbered values (values ++ v ∷ []) v n
numbered_last values v n same = (ap (slice_get (values ++ v ∷ [])) same ∙ last_item values v, inr (refl, same))
