-- Rows are counted, outcome by outcome.
use Rattle.std.proofs.Common.{◌≡◌, ℕ, zero, suc, ◌+◌, ◌<◌, ◌≤◌, List, [], ◌∷◌, ◌++◌, length, refl, sym, ap, ◌∙◌, subst, arith, inl, inr}
use Rattle.std.specs.Prelude.{◌≢◌, ◌⊎◌, Some, slice_get, slice_index_or, slice_set}
use Rattle.std.proofs.lemmas.Bool.{cases_eq, lt-ltb, le-ltb}
use Rattle.std.proofs.lemmas.List.{length-append, length-set, length-take-le, take_more, take_all}
use Rattle.std.proofs.lemmas.Option.{none-some, same_Some, slice_get_within, slice_get-get_or, get_or_from_slice_get}
use Rattle.std.proofs.Common.{take}
use Rattle.interner.specs.Rows.{Rows, IsInterned}
use Rattle.outcomes.specs.declared.rows.Row.{Row}
use Rattle.outcomes.specs.Rows.{IsRow, AreRows, IsTable, counted, one_more, no_row}
use Rattle.outcomes.proofs.CountLemmas.{count_so, count_other, count_none, count_as, count_most}
use Rattle.state_store.proofs.NumberedLemmas.{get-append}
use Rattle.state_store.proofs.HartLemmas.{get_set_same, get_set_other}

-- one of a list with one more
pub get_more : {X : Type 0} (xs : List X) (x y : X) (k : ℕ) → slice_get (xs ++ x ∷ []) k ≡ Some y
    → (slice_get xs k ≡ Some y) ⊎ ((k ≡ length xs) × (y ≡ x))
get_more [] x y zero at = inr (refl, sym (same_Some x y at))
get_more [] x y (suc k) at = absurd (none-some y at)
get_more (z ∷ xs) x y zero at = inl at
get_more (z ∷ xs) x y (suc k) at = elim (get_more xs x y k at) [
  | inl there ↦ inl there
  | inr last ↦ inr (ap suc last.0, last.1)
]

pub get_last : {X : Type 0} (xs : List X) (x : X) → slice_get (xs ++ x ∷ []) (length xs) ≡ Some x
get_last [] x = refl
get_last (y ∷ xs) x = get_last xs x

-- rows and their codes at the same places
pub table_at : {X : Type 0} (code : ℕ → X) (outcomes : List ℕ) (table : List X) (rows : List Row) (k : ℕ) (x : X)
    → IsTable code outcomes table rows → slice_get table k ≡ Some x
    → (r : Row) × (slice_get rows k ≡ Some r) × (code r.first ≡ x)
table_at code outcomes table rows k x is at =
    let within : k < length rows = omega (arith, is.even, slice_get_within table k x at) in
    let there = slice_get-get_or rows k no_row within in (
      slice_index_or rows k no_row,
      there,
      same_Some (code (slice_index_or rows k no_row).first) x (sym (is.keyed k (slice_index_or rows k no_row) there) ∙ at),
    )

-- the rows before any outcome
pub table_none : {X : Type 0} (code : ℕ → X) → IsTable code [] [] []
table_none code = record {
  even = refl;
  keyed = λ k r at. absurd (none-some r at);
  each = λ k r at. absurd (none-some r at);
  all = λ j n at. absurd (none-some n at);
  ordered = λ j k a b less at also. absurd (none-some a at);
}

module _ {X : Type 0} (code : ℕ → X) (outcomes : List ℕ) (table : List X) (rows : List Row) (x : ℕ)
    (is : IsTable code outcomes table rows)
    (later : (k n : ℕ) → slice_get outcomes k ≡ Some n → n < x) where
  -- ---- an outcome whose row is there

  -- the row of another place goes on
  other_row : (r : Row) → IsRow code outcomes r → ¬ (code x ≡ code r.first) → IsRow code (outcomes ++ x ∷ []) r
  other_row r row other = record {
    listed = (row.listed.0, get-append outcomes (x ∷ []) row.listed.0 r.first row.listed.1);
    earlier = λ k n at less. elim (get_more outcomes x n k at) [
      | inl there ↦ row.earlier k n there less
      | inr last ↦ λ same. other (ap code (sym last.1) ∙ same)
    ];
    counted = count_other (λ n. code n ≡ code r.first) outcomes x r.states row.counted other;
  }

  own_row : (r : Row) → IsRow code outcomes r → code x ≡ code r.first → IsRow code (outcomes ++ x ∷ []) (one_more r)
  own_row r row own = record {
    listed = (row.listed.0, get-append outcomes (x ∷ []) row.listed.0 r.first row.listed.1);
    earlier = λ k n at less. elim (get_more outcomes x n k at) [
      | inl there ↦ row.earlier k n there less
      | inr last ↦ λ same.
          let before : r.first < x = later row.listed.0 r.first row.listed.1 in
          omega (arith, last.1)
    ];
    counted = count_so (λ n. code n ≡ code r.first) outcomes x r.states row.counted own;
  }

  new_row : ((k : ℕ) → slice_get table k ≡ Some (code x) → ⊥) → IsRow code (outcomes ++ x ∷ []) (record { first = x; states = 1 })
  new_row absent =
      let none : (k n : ℕ) → slice_get outcomes k ≡ Some n → ¬ (code n ≡ code x) = λ k n at same.
      let row = is.all k n at in
      absent row.0 (is.keyed row.0 row.1 row.2 ∙ ap Some (row.3 ∙ same)) in
      record {
        listed = (length outcomes, get_last outcomes x);
        earlier = λ k n at less. elim (get_more outcomes x n k at) [
          | inl there ↦ none k n there
          | inr last ↦ λ same. omega (arith, last.1)
        ];
        counted = count_so (λ n. code n ≡ code x) outcomes x 0 (count_none (λ n. code n ≡ code x) outcomes none) refl;
      }

  -- a row more, after the last
  pub table_new : ((k : ℕ) → slice_get table k ≡ Some (code x) → ⊥)
      → IsTable code (outcomes ++ x ∷ []) (table ++ code x ∷ []) (rows ++ record { first = x; states = 1 } ∷ [])
  table_new absent = record {
    even = omega (arith, is.even, length-append rows (record { first = x; states = 1 } ∷ []), length-append table (code x ∷ []));
    keyed = λ k r at. elim (get_more rows (record { first = x; states = 1 }) r k at) [
      | inl there ↦ get-append table (code x ∷ []) k (code r.first) (is.keyed k r there)
      | inr last ↦
          subst (λ (i : ℕ). slice_get (table ++ code x ∷ []) i ≡ Some (code r.first)) (sym (last.0 ∙ is.even))
          (get_last table (code x) ∙ ap (λ (q : Row). Some (code q.first)) (sym last.1))
    ];
    each = λ k r at. elim (get_more rows (record { first = x; states = 1 }) r k at) [
      | inl there ↦ other_row r (is.each k r there)
          (λ same. absent k (is.keyed k r there ∙ ap Some (sym same)))
      | inr last ↦ subst (IsRow code (outcomes ++ x ∷ [])) (sym last.1) (new_row absent)
    ];
    all = λ j n at. elim (get_more outcomes x n j at) [
      | inl there ↦
          let row = is.all j n there in
          (row.0, row.1, get-append rows (record { first = x; states = 1 } ∷ []) row.0 row.1 row.2, row.3)
      | inr last ↦ (
        length rows,
        record { first = x; states = 1 },
        get_last rows (record { first = x; states = 1 }),
        ap code (sym last.1),
      )
    ];
    ordered = λ j k a b less at also.
        elim (get_more rows (record { first = x; states = 1 }) b k also) [
          | inl there ↦ elim (get_more rows (record { first = x; states = 1 }) a j at) [
            | inl here ↦ is.ordered j k a b less here there
            | inr past ↦ omega (arith, past.0, slice_get_within rows k b there)
          ]
          | inr last ↦ elim (get_more rows (record { first = x; states = 1 }) a j at) [
            | inl here ↦
                let row = is.each j a here in
                subst (λ (q : Row). a.first < q.first) (sym last.1) (later row.listed.0 a.first row.listed.1)
            | inr past ↦ omega (arith, past.0, last.0)
          ]
        ];
  }

  module _ (number : ℕ) (old : Row) (there : slice_get rows number ≡ Some old) (own : code old.first ≡ code x)
      (distinct : (i k : ℕ) (c : X) → slice_get table i ≡ Some c → slice_get table k ≡ Some c → i ≡ k) where
    -- a row of the counted ones is one that was there, counted once more or not
    changed : (k : ℕ) (r : Row) → slice_get (slice_set rows number (one_more old)) k ≡ Some r
        → ((k ≡ number) × (r ≡ one_more old)) ⊎ ((k ≢ number) × (slice_get rows k ≡ Some r))
    changed k r at = elim (cases_eq k number) [
      | inl same ↦ inl (
        same,
        same_Some r (one_more old) (sym at ∙ (ap (slice_get (slice_set rows number (one_more old))) same
            ∙ get_set_same rows number (one_more old) (slice_get_within rows number old there))),
      )
      | inr other ↦ inr (other, sym (get_set_other rows number k (one_more old) other) ∙ at)
    ]

    -- what was there is there, counted once more or not
    still : (k : ℕ) (r : Row) → slice_get rows k ≡ Some r
        → (q : Row) × (slice_get (slice_set rows number (one_more old)) k ≡ Some q) × (q.first ≡ r.first)
    still k r at = elim (cases_eq k number) [
      | inl same ↦ (
        one_more old,
        ap (slice_get (slice_set rows number (one_more old))) same
            ∙ get_set_same rows number (one_more old) (slice_get_within rows number old there),
        ap (λ (q : Row). q.first) (same_Some old r (sym there ∙ (ap (slice_get rows) (sym same) ∙ at))),
      )
      | inr other ↦ (r, get_set_other rows number k (one_more old) other ∙ at, refl)
    ]

    -- the first outcomes of the rows are the same
    firsts : (k : ℕ) (r : Row) → slice_get (slice_set rows number (one_more old)) k ≡ Some r
        → (q : Row) × (slice_get rows k ≡ Some q) × (q.first ≡ r.first)
    firsts k r at = elim (changed k r at) [
      | inl here ↦ (old, ap (slice_get rows) here.0 ∙ there, ap (λ (q : Row). q.first) (sym here.1))
      | inr other ↦ (r, other.1, refl)
    ]

    pub table_again : IsTable code (outcomes ++ x ∷ []) table (slice_set rows number (one_more old))
    table_again = record {
      even = length-set rows number (one_more old) ∙ is.even;
      keyed = λ k r at.
          let q = firsts k r at in is.keyed k q.0 q.1 ∙ ap (λ (n : ℕ). Some (code n)) q.2;
      each = λ k r at. elim (changed k r at) [
        | inl here ↦ subst (IsRow code (outcomes ++ x ∷ [])) (sym here.1)
            (own_row old (is.each number old there) (sym own))
        | inr other ↦ other_row r (is.each k r other.1)
            (λ same. other.0 (distinct k number (code x) (is.keyed k r other.1 ∙ ap Some (sym same))
            (is.keyed number old there ∙ ap Some own)))
      ];
      all = λ j n at. elim (get_more outcomes x n j at) [
        | inl before ↦
            let row = is.all j n before in
            let q = still row.0 row.1 row.2 in
            (row.0, q.0, q.1, ap code q.2 ∙ row.3)
        | inr last ↦ (
          number,
          one_more old,
          get_set_same rows number (one_more old) (slice_get_within rows number old there),
          own ∙ ap code (sym last.1),
        )
      ];
      ordered = λ j k a b less at also.
          let p = firsts j a at in
          let q = firsts k b also in
          let before = is.ordered j k p.0 q.0 less p.1 q.1 in
          omega (arith, p.2, q.2);
    }

-- an outcome more, of a row that was numbered
pub table_counted : {X : Type 0} (code : ℕ → X) (outcomes : List ℕ) (old new : List X) (rows : List Row) (x number : ℕ)
    → IsTable code outcomes old rows → ((k n : ℕ) → slice_get outcomes k ≡ Some n → n < x)
    → slice_get new number ≡ Some (code x)
    → (new ≡ old) ⊎ ((new ≡ old ++ code x ∷ []) × (number ≡ length old))
    → ((i k : ℕ) (c : X) → slice_get new i ≡ Some c → slice_get new k ≡ Some c → i ≡ k)
    → IsTable code (outcomes ++ x ∷ []) new (counted number x rows)
unfolding counted
table_counted {X} code outcomes old new rows x number is later numbered (inl same) distinct =
    let there : slice_get old number ≡ Some (code x) = subst (λ (t : List X). slice_get t number ≡ Some (code x)) same numbered in
    let row = table_at code outcomes old rows number (code x) is there in
    let within : number < length rows = slice_get_within rows number row.0 row.1 in
    let apart : (i k : ℕ) (c : X) → slice_get old i ≡ Some c → slice_get old k ≡ Some c → i ≡ k =
    subst (λ (t : List X). (i k : ℕ) (c : X) → slice_get t i ≡ Some c → slice_get t k ≡ Some c → i ≡ k) same distinct in
    let own : slice_index_or rows number no_row ≡ row.0 = get_or_from_slice_get rows number row.0 no_row row.1 in
    let again = table_again code outcomes old rows x is later number row.0 row.1 row.2 apart in
    rw (same, lt-ltb number (length rows) within, own) again
table_counted {X} code outcomes old new rows x number is later numbered (inr grown) distinct =
    let absent : (k : ℕ) → slice_get old k ≡ Some (code x) → ⊥ = λ k at.
    let there : slice_get new k ≡ Some (code x) =
    subst (λ (t : List X). slice_get t k ≡ Some (code x)) (sym grown.0) (get-append old (code x ∷ []) k (code x) at) in
    let low = slice_get_within old k (code x) at in
    omega (arith, distinct k number (code x) there numbered, grown.1, low) in
    let past : length rows ≤ number = omega (arith, is.even, grown.1) in
    rw (grown.0, le-ltb number (length rows) past) (table_new code outcomes old rows x is later absent)

-- what is so of codes is so of what has them
pub rows_by : {X Y : Type 0} (value : ℕ → X) (code : ℕ → Y) (outcomes : List ℕ) (table : List Y) (rows : List Row)
    → ((m n : ℕ) → code m ≡ code n → value m ≡ value n) → ((m n : ℕ) → value m ≡ value n → code m ≡ code n)
    → IsTable code outcomes table rows
    → ((i k : ℕ) (c : Y) → slice_get table i ≡ Some c → slice_get table k ≡ Some c → i ≡ k)
    → AreRows value outcomes rows
rows_by value code outcomes table rows to from is distinct = record {
  each = λ k r at.
      let row = is.each k r at in
      record {
        listed = row.listed;
        earlier = λ j n there less same. row.earlier j n there less (from n r.first same);
        counted = count_as (λ n. code n ≡ code r.first) (λ n. value n ≡ value r.first) outcomes r.states
            (λ n. to n r.first) (λ n. from n r.first) row.counted;
      };
  all = λ j n at. let row = is.all j n at in (row.0, row.1, row.2, to row.1.first n row.3);
  apart = λ j k a b at also same.
      distinct j k (code a.first) (is.keyed j a at)
      (is.keyed k b also ∙ ap Some (sym (from a.first b.first same)));
  ordered = is.ordered;
}

-- ---- what an interner says

pub interned_rows : (old new : Rows) (row : List ℕ) (number : ℕ) → IsInterned old new row number
    → (slice_get new.rows number ≡ Some row) × ((new.rows ≡ old.rows) ⊎ ((new.rows ≡ old.rows ++ row ∷ []) × (number ≡ length old.rows)))
interned_rows old new row number is = (
  is.0,
  elim is.1 [
    | inl same ↦ inl (ap (λ (t : Rows). t.rows) same)
    | inr grown ↦ inr (ap (λ (t : Rows). t.rows) grown.0, grown.1)
  ],
)

-- a number that was given is one of those that there are, or the next one
pub number_within : (old new : Rows) (row : List ℕ) (number : ℕ) (size : ℕ) → IsInterned old new row number → size ≡ length old.rows
    → number ≤ size
number_within old new row number size is even =
    let rows = interned_rows old new row number is in
    elim rows.1 [
      | inl same ↦
          let low = slice_get_within new.rows number row rows.0 in
          omega (arith, even, ap length same)
      | inr grown ↦ omega (arith, even, grown.1)
    ]

-- one of the first so many
pub take_get : (xs : List ℕ) (i k x : ℕ) → slice_get (take i xs) k ≡ Some x → (k < i) × (slice_get xs k ≡ Some x)
take_get [] zero k x at = absurd (none-some x at)
take_get [] (suc i) k x at = absurd (none-some x at)
take_get (y ∷ xs) zero k x at = absurd (none-some x at)
take_get (y ∷ xs) (suc i) zero x at = (omega arith, at)
take_get (y ∷ xs) (suc i) (suc k) x at = let more = take_get xs i k x at in (omega (arith, more.0), more.1)

-- a row more, of the outcome at a place
pub table_step : {X : Type 0} (code : ℕ → X) (outcomes : List ℕ) (i d number : ℕ) (old new : List X) (rows after : List Row)
    → i < length outcomes → IsTable code (take i outcomes) old rows
    → ((j k m n : ℕ) → j < k → slice_get outcomes j ≡ Some m → slice_get outcomes k ≡ Some n → m < n)
    → slice_get new number ≡ Some (code (slice_index_or outcomes i d))
    → (new ≡ old) ⊎ ((new ≡ old ++ code (slice_index_or outcomes i d) ∷ []) × (number ≡ length old))
    → ((j k : ℕ) (c : X) → slice_get new j ≡ Some c → slice_get new k ≡ Some c → j ≡ k)
    → after ≡ counted number (slice_index_or outcomes i d) rows
    → IsTable code (take (i + 1) outcomes) new after
table_step code outcomes i d number old new rows after within table ascending numbered grown distinct is =
    let x = slice_index_or outcomes i d in
    let here = slice_get-get_or outcomes i d within in
    let later : (k n : ℕ) → slice_get (take i outcomes) k ≡ Some n → n < x = λ k n at.
    let before = take_get outcomes i k n at in
    ascending k i n x before.0 before.1 here in
    subst (λ (xs : List ℕ). IsTable code xs new after) (sym (take_more outcomes i d within))
    (subst (λ (rs : List Row). IsTable code (take i outcomes ++ x ∷ []) new rs) (sym is)
    (table_counted code (take i outcomes) old new rows x number table later numbered grown distinct))

pub table_end : {X : Type 0} (code : ℕ → X) (outcomes : List ℕ) (i : ℕ) (table : List X) (rows : List Row) → length outcomes ≤ i
    → IsTable code (take i outcomes) table rows → IsTable code outcomes table rows
table_end code outcomes i table rows past is = subst (λ (xs : List ℕ). IsTable code xs table rows) (take_all i outcomes past) is

-- a row was counted for at most all
pub row_room : {X : Type 0} (code : ℕ → X) (outcomes : List ℕ) (i k : ℕ) (table : List X) (rows : List Row) (r : Row) → i < length outcomes
    → IsTable code (take i outcomes) table rows → slice_get rows k ≡ Some r → r.states < length outcomes
row_room code outcomes i k table rows r within is at =
    let row = is.each k r at in
    let most = count_most (λ n. code n ≡ code r.first) (take i outcomes) r.states row.counted in
    omega (arith, most, length-take-le i outcomes (omega arith))

-- ---- counting

pub counted_there : (rows : List Row) (number outcome : ℕ) (d : Row) → number < length rows
    → slice_set rows number (one_more (slice_index_or rows number d)) ≡ counted number outcome rows
unfolding counted
counted_there rows number outcome d within =
    rw (
      lt-ltb number (length rows) within,
      get_or_from_slice_get rows number (slice_index_or rows number d) no_row (slice_get-get_or rows number d within),
    ) refl

pub counted_new : (rows : List Row) (number outcome : ℕ) → length rows ≤ number
    → rows ++ record { first = outcome; states = 1 } ∷ [] ≡ counted number outcome rows
unfolding counted
counted_new rows number outcome past = rw (le-ltb number (length rows) past) refl
