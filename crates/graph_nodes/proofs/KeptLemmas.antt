-- Rows, and what is kept of them.
use Rattle.std.proofs.Common.{◌≡◌, ◌≢◌, ℕ, zero, suc, ◌+◌, ◌-◌, ◌*◌, ◌<◌, ◌≤◌, List, [], ◌∷◌, ◌++◌, map, take, get_or, length, Option, Some, None, IfSome, Result, Ok, Err, IfOk, OnErr, ◌⊎◌, ⊎_elim, arith, ap, sym, ◌∙◌, refl, subst, inl, inr}
use Rattle.std.specs.Prelude.{slice_get, option_map}
use Rattle.std.proofs.Math.Seq.{take-suc}
use Rattle.std.proofs.lemmas.List.{map-append, map-id, length-map}
use Rattle.std.proofs.lemmas.Option.{none-some, same_Some, slice_get-map, slice_get_within, get_or_from_slice_get}
use Rattle.interner.specs.Rows.{Rows, IsRow, IsDistinct, IsInterned}
use Rattle.graph_nodes.specs.Packing.{unpacked}
use Rattle.graph_nodes.specs.Kept.{kept_word, kept_of, kept_in, kept_width, row_of, rows_of, HasBits, AreKept}

-- what is kept of a row that fits into this word
pub row_of_word : (bits width word : ℕ) (row : List ℕ) → length row ≡ width → unpacked bits (length row - 1) word ≡ row →
    row_of (Some bits) width (kept_word word) ≡ row
row_of_word bits width word row wide back = rw (← wide) back

-- a row of this width has room in a word
pub has_room : (bits : Option ℕ) (b width n : ℕ) → HasBits bits width → bits ≡ Some b → n ≡ width → (n - 1) * b ≤ 64
has_room (Some d) b width n fit is wide = rw (wide, ← same_Some d b is) fit.3
has_room None b width n fit is wide = absurd (none-some b is)

-- What is kept of a row that is there.
record IsKeptAt (bits : Option ℕ) (width : ℕ) (kept : Rows) (i : ℕ) (row : List ℕ) : Type 0 where
  what : List ℕ
  there : slice_get kept.rows i ≡ Some what
  means : row_of bits width what ≡ row
  same : kept_of bits row ≡ Some what

kept_at : (bits : Option ℕ) (width : ℕ) (kept : Rows) → AreKept bits width kept → (i : ℕ) (row : List ℕ) →
    slice_get (rows_of bits width kept).rows i ≡ Some row → IsKeptAt bits width kept i row
kept_at bits width kept are i row is =
    on (slice_get kept.rows i) refl (sym (slice_get-map (row_of bits width) kept.rows i) ∙ is)
  where
    on : (got : Option (List ℕ)) → slice_get kept.rows i ≡ got → option_map (row_of bits width) got ≡ Some row →
        IsKeptAt bits width kept i row
    on None at is = absurd (none-some row is)
    on (Some what) at is =
        let same_row = same_Some (row_of bits width what) row is in
        record {
          what = what;
          there = at;
          means = same_row;
          same = ap (kept_of bits) (sym same_row) ∙ are.same i what at;
        }

-- the row of this number, of which this is kept
pub row_there : (bits : Option ℕ) (width : ℕ) (kept : Rows) (i : ℕ) (what row : List ℕ) → slice_get kept.rows i ≡ Some what →
    row_of bits width what ≡ row → slice_get (rows_of bits width kept).rows i ≡ Some row
row_there bits width kept i what row at is =
    slice_get-map (row_of bits width) kept.rows i ∙ ap (option_map (row_of bits width)) at ∙ ap (λ r. Some r) is

pub no_row_there : (bits : Option ℕ) (width : ℕ) (kept : Rows) (i : ℕ) → slice_get kept.rows i ≡ None →
    slice_get (rows_of bits width kept).rows i ≡ None
no_row_there bits width kept i at =
    slice_get-map (row_of bits width) kept.rows i ∙ ap (option_map (row_of bits width)) at

-- a row isn't there where what would be kept of it isn't
pub absent_row : (bits : Option ℕ) (width : ℕ) (kept : Rows) → AreKept bits width kept → (row what : List ℕ) →
    kept_of bits row ≡ Some what → ((i : ℕ) → slice_get kept.rows i ≢ Some what) →
    (i : ℕ) → slice_get (rows_of bits width kept).rows i ≢ Some row
absent_row bits width kept are row what is absent i there =
    let at = kept_at bits width kept are i row there in
    absent i (at.there ∙ ap (λ w. Some w) (same_Some at.what what (sym at.same ∙ is)))

-- a row that doesn't fit isn't there
pub unfit_row : (bits : Option ℕ) (width : ℕ) (kept : Rows) → AreKept bits width kept → (row : List ℕ) →
    kept_of bits row ≡ None → (i : ℕ) → slice_get (rows_of bits width kept).rows i ≢ Some row
unfit_row bits width kept are row is i there =
    let at = kept_at bits width kept are i row there in
    none-some at.what (sym is ∙ at.same)

-- a row that is there is as wide as all
pub row_wide : (bits : Option ℕ) (width : ℕ) (kept : Rows) → AreKept bits width kept → (i : ℕ) (row : List ℕ) →
    slice_get (rows_of bits width kept).rows i ≡ Some row → length row ≡ width
row_wide bits width kept are i row there =
    let at = kept_at bits width kept are i row there in
    ap length (sym at.means) ∙ are.long i at.what at.there

-- no two rows are the same
pub rows_distinct : (bits : Option ℕ) (width : ℕ) (kept : Rows) → AreKept bits width kept → IsDistinct kept →
    IsDistinct (rows_of bits width kept)
rows_distinct bits width kept are distinct i k row first second =
    let at_i = kept_at bits width kept are i row first in
    let at_k = kept_at bits width kept are k row second in
    let same = same_Some at_k.what at_i.what (sym at_k.same ∙ at_i.same) in
    distinct i k at_i.what at_i.there (at_k.there ∙ ap (λ w. Some w) same)

-- a row was found where what is kept of it was
pub found_row : (bits : Option ℕ) (width : ℕ) (kept : Rows) (what row : List ℕ) (found : Option ℕ) →
    row_of bits width what ≡ row → IfSome found (λ number. IsRow kept number what) →
    IfSome found (λ number. IsRow (rows_of bits width kept) number row)
found_row bits width kept what row None means is = is
found_row bits width kept what row (Some number) means is = row_there bits width kept number what row is means

pub same_rows : (a b : Rows) → a.width ≡ b.width → a.rows ≡ b.rows → a ≡ b
same_rows a b width rows = ap (λ (w : ℕ). record { width = w; rows = a.rows }) width ∙ ap (λ (r : List (List ℕ)). record { width = b.width; rows = r }) rows

got_before : {X : Type 0} (xs : List X) (n k : ℕ) (x : X) → slice_get (take n xs) k ≡ Some x →
    (k < n) × (slice_get xs k ≡ Some x)
got_before [] zero k x is = absurd (none-some x is)
got_before [] (suc n) k x is = absurd (none-some x is)
got_before (y ∷ ys) zero k x is = absurd (none-some x is)
got_before (y ∷ ys) (suc n) zero x is = (omega arith, is)
got_before (y ∷ ys) (suc n) (suc k) x is = let rest = got_before ys n k x is in (omega (arith, rest.0), rest.1)

-- what is in a list with one more item is in the list, or is the item
got_more : {X : Type 0} (xs : List X) (y : X) (i : ℕ) (x : X) → slice_get (xs ++ y ∷ []) i ≡ Some x →
    (slice_get xs i ≡ Some x) ⊎ (x ≡ y)
got_more [] y zero x is = inr (sym (same_Some y x is))
got_more [] y (suc i) x is = absurd (none-some x is)
got_more (z ∷ zs) y zero x is = inl is
got_more (z ∷ zs) y (suc i) x is = got_more zs y i x is

-- The row after the first n was interned behind them.
pub rows_copied : (from old new : Rows) (n k : ℕ) (row : List ℕ) → IsDistinct from → IsRow from n row →
    old.rows ≡ take n from.rows → IsInterned old new row k → new.rows ≡ take (n + 1) from.rows
rows_copied from old new n k row distinct there same (here, inl kept) =
    let inside : slice_get (take n from.rows) k ≡ Some row =
    ap (λ r. slice_get r k) (sym (ap (λ (t : Rows). t.rows) kept ∙ same)) ∙ here in
    let before = got_before from.rows n k row inside in
    let equal : k ≡ n = distinct k n row before.1 there in
    absurd (omega (arith, before.0))
rows_copied from old new n k row distinct there same (here, inr (more, last)) =
    let e : n + 1 ≡ suc n = omega arith in
    let within : n < length from.rows = slice_get_within from.rows n row there in
    let next = take-suc from.rows n row within in
    let at : get_or from.rows n row ≡ row = get_or_from_slice_get from.rows n row row there in
    ap (λ (t : Rows). t.rows) more ∙ ap (λ r. r ++ row ∷ []) same
    ∙ sym (ap (λ k. take k from.rows) e ∙ next ∙ ap (λ r. take n from.rows ++ r ∷ []) at)

pub take-all : {X : Type 0} (xs : List X) (n : ℕ) → length xs ≤ n → take n xs ≡ xs
take-all [] zero all = refl
take-all [] (suc n) all = refl
take-all (x ∷ xs) zero all = absurd (omega arith)
take-all (x ∷ xs) (suc n) all = ap (λ ys. x ∷ ys) (take-all xs n (omega arith))

pub rows_whole : (from wide : Rows) (n : ℕ) → length from.rows ≤ n → wide.width ≡ from.width →
    wide.rows ≡ take n from.rows → wide ≡ from
rows_whole from wide n all width rows =
    same_rows wide from width (rows ∙ take-all from.rows n all)

-- A row was interned where what is kept of it was.
interned_row : (bits : Option ℕ) (width : ℕ) (old new : Rows) (what row : List ℕ) (number : ℕ) →
    row_of bits width what ≡ row → IsInterned old new what number →
    IsInterned (rows_of bits width old) (rows_of bits width new) row number
interned_row bits width old new what row number means (here, inl kept) =
    (row_there bits width new number what row here means, inl (ap (rows_of bits width) kept))
interned_row bits width old new what row number means (here, inr (more, last)) =
    let f = row_of bits width in
    let rows : map f new.rows ≡ map f old.rows ++ row ∷ [] =
    ap (λ (t : Rows). map f t.rows) more ∙ map-append f old.rows (what ∷ []) ∙ ap (λ r. map f old.rows ++ r ∷ []) means in (
      row_there bits width new number what row here means,
      inr (
        ap (λ (r : List (List ℕ)). record { width = width; rows = r }) rows,
        last ∙ sym (length-map old.rows f),
      ),
    )

pub interned_rows : {E : Type 0} (bits : Option ℕ) (width : ℕ) (old new : Rows) (what row : List ℕ) (result : Result ℕ E) →
    row_of bits width what ≡ row → IfOk result (λ number. IsInterned old new what number) →
    IfOk result (λ number. IsInterned (rows_of bits width old) (rows_of bits width new) row number)
interned_rows bits width old new what row (Ok number) means is = interned_row bits width old new what row number means is
interned_rows bits width old new what row (Err fault) means is = is

-- What is kept stays so.
kept_more : (bits : Option ℕ) (width : ℕ) (old new : Rows) (what row : List ℕ) (number : ℕ) → AreKept bits width old →
    row_of bits width what ≡ row → kept_of bits row ≡ Some what → length row ≡ width → IsInterned old new what number →
    AreKept bits width new
kept_more bits width old new what row number are means fits wide (here, inl kept) =
    subst (AreKept bits width) (sym kept) are
kept_more bits width old new what row number are means fits wide (here, inr (more, last)) =
    subst (AreKept bits width) (sym more) (record {
      fit = are.fit;
      wide = are.wide;
      same = λ i k at. ⊎_elim (are.same i k)
          (λ is. ap (kept_of bits) (ap (row_of bits width) is ∙ means) ∙ fits ∙ ap (λ w. Some w) (sym is))
          (got_more old.rows what i k at);
      long = λ i k at. ⊎_elim (are.long i k) (λ is. ap length (ap (row_of bits width) is ∙ means) ∙ wide)
          (got_more old.rows what i k at);
    })

pub kept_after : {E : Type 0} (bits : Option ℕ) (width : ℕ) (old new : Rows) (what row : List ℕ) (result : Result ℕ E) →
    AreKept bits width old → row_of bits width what ≡ row → kept_of bits row ≡ Some what → length row ≡ width →
    IfOk result (λ number. IsInterned old new what number) → OnErr result (new ≡ old) → AreKept bits width new
kept_after bits width old new what row (Ok number) are means fits wide is same =
    kept_more bits width old new what row number are means fits wide is
kept_after bits width old new what row (Err fault) are means fits wide is same = subst (AreKept bits width) (sym same) are

-- The rows themselves are kept number by number.
pub rows_kept : (bits : Option ℕ) (width : ℕ) (kept rows : Rows) → AreKept bits width kept → rows ≡ rows_of bits width kept →
    AreKept None width rows
rows_kept bits width kept rows are is = subst (AreKept None width) (sym is) (record {
  fit = tt;
  wide = refl;
  same = λ i k at. refl;
  long = row_wide bits width kept are;
})

pub rows_themselves : (width : ℕ) (rows : Rows) → rows.width ≡ width → rows_of None width rows ≡ rows
rows_themselves width rows wide = same_rows (rows_of None width rows) rows (sym wide) (map-id rows.rows)

-- No rows are kept in any form.
pub no_rows : (bits : Option ℕ) (width : ℕ) (words wide : Rows) → words.rows ≡ [] → wide.rows ≡ [] →
    (rows_of bits width (kept_in bits words wide)).rows ≡ []
no_rows None width words wide no_words none = ap (map (row_of None width)) none
no_rows (Some bits) width words wide no_words none = ap (map (row_of (Some bits) width)) no_words

kept_empty : (bits : Option ℕ) (width : ℕ) (kept : Rows) → HasBits bits width → kept.width ≡ kept_width bits width →
    kept.rows ≡ [] → AreKept bits width kept
kept_empty bits width kept fit wide none = record {
  fit = fit;
  wide = wide;
  same = λ i k at. absurd (none-some k (sym (ap (λ (r : List (List ℕ)). slice_get r i) none) ∙ at));
  long = λ i k at. absurd (none-some k (sym (ap (λ (r : List (List ℕ)). slice_get r i) none) ∙ at));
}

pub none_kept : (bits : Option ℕ) (width : ℕ) (words wide : Rows) → HasBits bits width → words.width ≡ 1 →
    wide.width ≡ width → words.rows ≡ [] → wide.rows ≡ [] → AreKept bits width (kept_in bits words wide)
none_kept None width words wide fit one same no_words none = kept_empty None width wide fit same none
none_kept (Some bits) width words wide fit one same no_words none = kept_empty (Some bits) width words fit one no_words
