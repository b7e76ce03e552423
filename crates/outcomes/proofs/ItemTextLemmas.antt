-- What items hold, one more at a time.
use Rattle.std.proofs.Common.{◌≡◌, ℕ, ◌+◌, ◌<◌, ◌≤◌, false, List, [], ◌∷◌, ◌++◌, length, drop, map, arith, refl, sym, ◌∙◌, append_assoc, append-nil, add-one, drop-cons, inl, inr, ◌⊎◌}
use Rattle.std.proofs.Math.ListN.{drop_of_length-le}
use Rattle.std.proofs.lemmas.Bool.{cases_lt}
use Rattle.std.specs.Prelude.{min, slice_index_or}
use Rattle.serde_json.specs.Data.{Members, string, put}
use Rattle.serde_json.specs.Written.{members_have_float}
use Rattle.outcomes.specs.ItemTexts.{item_part, items_text, item_value_text, put_items}
use Rattle.outcomes.specs.declared.items.ItemValue.{ItemValue}
use Rattle.report_lines.proofs.JsonLemmas.{put_no_float}

-- no item has a float
pub items_no_float : (names : List (List ℕ)) (values : List ItemValue) (put_so_far : Members) → members_have_float put_so_far ≡ false
    → members_have_float (put_items names values put_so_far) ≡ false
unfolding put_items
items_no_float [] values put_so_far none = none
items_no_float (name ∷ names) [] put_so_far none = none
items_no_float (name ∷ names) (v ∷ values) put_so_far none =
    items_no_float names values (put name (string (item_value_text v)) put_so_far) (put_no_float name (string (item_value_text v)) put_so_far refl none)

-- the item at a place was written
no_items : (names : List (List ℕ)) → items_text names [] ≡ []
unfolding items_text
no_items [] = refl
no_items (name ∷ names) = refl

items_left : {X : Type 0} (f : X → List ℕ) (names : List X) (values : List ItemValue) (i : ℕ) (d : X) (e : ItemValue)
    → i < length names → i < length values
    → items_text (map f (drop i names)) (drop i values)
    ≡ item_part (f (slice_index_or names i d)) (slice_index_or values i e) ++ items_text (map f (drop (i + 1) names)) (drop (i + 1) values)
unfolding items_text
items_left f names values i d e in_names in_values =
    let here : drop i names ≡ slice_index_or names i d ∷ drop (i + 1) names = rw add-one (drop-cons names i d in_names) in
    let there : drop i values ≡ slice_index_or values i e ∷ drop (i + 1) values = rw add-one (drop-cons values i e in_values) in
    rw (here, there) refl

pub items_step : {X : Type 0} (f : X → List ℕ) (names : List X) (values : List ItemValue) (i : ℕ) (d name : X) (e v : ItemValue)
    (before after all : List ℕ) → i < length names → i < length values → name ≡ slice_index_or names i d → v ≡ slice_index_or values i e
    → after ≡ before ++ item_part (f name) v → before ++ items_text (map f (drop i names)) (drop i values) ≡ all
    → after ++ items_text (map f (drop (i + 1) names)) (drop (i + 1) values) ≡ all
items_step f names values i d name e v before after all in_names in_values name_is v_is written whole =
    rw (written, name_is, v_is, append_assoc) (rw (items_left f names values i d e in_names in_values) at whole)

-- no item is left
none_left : {X : Type 0} (f : X → List ℕ) (names : List X) (values : List ItemValue) (i : ℕ)
    → (length names ≤ i) ⊎ (length values ≤ i) → items_text (map f (drop i names)) (drop i values) ≡ []
unfolding items_text
none_left f names values i (inl past) = rw (drop_of_length-le names past) refl
none_left f names values i (inr past) = rw (drop_of_length-le values past) (no_items (map f (drop i names)))

pub items_end : {X : Type 0} (f : X → List ℕ) (names : List X) (values : List ItemValue) (i : ℕ) (before all : List ℕ)
    → (length names ≤ i) ⊎ (length values ≤ i) → before ++ items_text (map f (drop i names)) (drop i values) ≡ all → before ≡ all
items_end f names values i before all past whole = rw append-nil at (rw (none_left f names values i past) at whole)

-- the same of put_so_far
nothing_put : (names : List (List ℕ)) (put_so_far : Members) → put_items names [] put_so_far ≡ put_so_far
unfolding put_items
nothing_put [] put_so_far = refl
nothing_put (name ∷ names) put_so_far = refl

puts_left : {X : Type 0} (f : X → List ℕ) (names : List X) (values : List ItemValue) (i : ℕ) (d : X) (e : ItemValue) (put_so_far : Members)
    → i < length names → i < length values
    → put_items (map f (drop i names)) (drop i values) put_so_far
    ≡ put_items (map f (drop (i + 1) names)) (drop (i + 1) values)
    (put (f (slice_index_or names i d)) (string (item_value_text (slice_index_or values i e))) put_so_far)
unfolding put_items
puts_left f names values i d e put_so_far in_names in_values =
    let here : drop i names ≡ slice_index_or names i d ∷ drop (i + 1) names = rw add-one (drop-cons names i d in_names) in
    let there : drop i values ≡ slice_index_or values i e ∷ drop (i + 1) values = rw add-one (drop-cons values i e in_values) in
    rw (here, there) refl

pub puts_step : {X : Type 0} (f : X → List ℕ) (names : List X) (values : List ItemValue) (i : ℕ) (d name : X) (e v : ItemValue)
    (before after all : Members) → i < length names → i < length values → name ≡ slice_index_or names i d → v ≡ slice_index_or values i e
    → after ≡ put (f name) (string (item_value_text v)) before → put_items (map f (drop i names)) (drop i values) before ≡ all
    → put_items (map f (drop (i + 1) names)) (drop (i + 1) values) after ≡ all
puts_step f names values i d name e v before after all in_names in_values name_is v_is written whole =
    rw (written, name_is, v_is) (rw (puts_left f names values i d e before in_names in_values) at whole)

pub puts_end : {X : Type 0} (f : X → List ℕ) (names : List X) (values : List ItemValue) (i : ℕ) (put_so_far all : Members)
    → (length names ≤ i) ⊎ (length values ≤ i) → put_items (map f (drop i names)) (drop i values) put_so_far ≡ all → put_so_far ≡ all
unfolding put_items
puts_end f names values i put_so_far all (inl past) whole = rw (drop_of_length-le names past) at whole
puts_end f names values i put_so_far all (inr past) whole =
    sym (nothing_put (map f (drop i names)) put_so_far) ∙ (rw (drop_of_length-le values past) at whole)

-- a place in the shorter list is in both, and one past it past one of them
pub in_both : (i end m n : ℕ) → end ≡ min m n → i < end → (i < m) × (i < n)
in_both i end m n is within = (omega arith, omega arith)

pub past_one : (i end m n : ℕ) → end ≡ min m n → end ≤ i → (m ≤ i) ⊎ (n ≤ i)
past_one i end m n is past = elim (cases_lt i m) [
  | inl within ↦ inr (omega arith)
  | inr out ↦ inl out
]
