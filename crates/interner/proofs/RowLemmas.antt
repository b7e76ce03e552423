-- Rows in a list of numbers.
use Rattle.std.proofs.Common.{◌≡◌, ◌≢◌, ℕ, zero, suc, ◌+◌, ◌*◌, ◌<◌, ◌≤◌, List, [], ◌∷◌, ◌++◌, length, get_or, take, drop, arith, ap, sym, ◌∙◌, refl, inl, inr, length-append}
use Rattle.std.specs.Prelude.{slice_get, Option, Some, None, IfSome}
use Rattle.std.proofs.Math.Nat.{mul-le-mul_right, suc-mul}
use Rattle.std.proofs.Math.Seq.{get_or-append_seam, drop-append_seam, take-length}
use Rattle.std.proofs.lemmas.List.{length-drop, length-take-le, get_or_append_left, drop-append-le, take-append-le}
use Rattle.std.proofs.lemmas.Option.{slice_get-get_or, slice_get_within, slice_get_past, same_Some}
use Rattle.std.proofs.lemmas.Bool.{cases_lt}
use Rattle.interner.specs.Rows.{Rows, row_at, rows_of, IsInterned}

-- a row ends no later than the rows do
pub row_ends : (i n width : ℕ) → i < n → (i + 1) * width ≤ n * width
row_ends i n width below = let more : i + 1 ≤ n = omega arith in mul-le-mul_right width more

-- a row begins where the rows before it end
pub row_begins : (i width : ℕ) → (i + 1) * width ≡ i * width + width
row_begins i width = let e : i + 1 ≡ suc i = omega arith in rw e (suc-mul i width)

pub length-rows_of : (width : ℕ) (numbers : List ℕ) (n : ℕ) → length (rows_of width numbers n) ≡ n
unfolding rows_of
length-rows_of width numbers zero = refl
length-rows_of width numbers (suc n) =
    let rest = length-rows_of width numbers n in
    let both = length-append (rows_of width numbers n) (row_at width numbers n ∷ []) in
    omega arith

-- row i among the first n
get_or-rows_of : (width : ℕ) (numbers : List ℕ) (n i : ℕ) → i < n →
    get_or (rows_of width numbers n) i [] ≡ row_at width numbers i
unfolding rows_of
get_or-rows_of width numbers zero i below = absurd (omega arith)
get_or-rows_of width numbers (suc n) i below =
    let count = length-rows_of width numbers n in
    elim (cases_lt i n) [
      | inl before ↦
          let within : i < length (rows_of width numbers n) = omega arith in
          get_or_append_left (rows_of width numbers n) (row_at width numbers n ∷ []) [] i within
          ∙ get_or-rows_of width numbers n i before
      | inr after ↦
          let last : i ≡ length (rows_of width numbers n) = omega arith in
          let same : i ≡ n = omega arith in
          ap (λ k. get_or (rows_of width numbers n ++ row_at width numbers n ∷ []) k []) last
          ∙ get_or-append_seam (rows_of width numbers n) (row_at width numbers n) [] []
          ∙ ap (row_at width numbers) (sym same)
    ]

pub slice_get-rows_of : (width : ℕ) (numbers : List ℕ) (n i : ℕ) → i < n →
    slice_get (rows_of width numbers n) i ≡ Some (row_at width numbers i)
slice_get-rows_of width numbers n i below =
    let within : i < length (rows_of width numbers n) = omega (arith, length-rows_of width numbers n) in
    slice_get-get_or (rows_of width numbers n) i [] within ∙ ap (λ row. Some row)
    (get_or-rows_of width numbers n i below)

-- what is among the rows under a number is the row there
pub row_number : (width : ℕ) (numbers : List ℕ) (n i : ℕ) (row : List ℕ) →
    slice_get (rows_of width numbers n) i ≡ Some row → i < n
row_number width numbers n i row found =
    omega (arith, length-rows_of width numbers n, slice_get_within (rows_of width numbers n) i row found)

pub row_found : (width : ℕ) (numbers : List ℕ) (n i : ℕ) (row : List ℕ) →
    slice_get (rows_of width numbers n) i ≡ Some row → row_at width numbers i ≡ row
row_found width numbers n i row found =
    same_Some (row_at width numbers i) row
    (sym (slice_get-rows_of width numbers n i (row_number width numbers n i row found)) ∙ found)

-- numbers after a row don't change it
pub row_at-append : (width : ℕ) (numbers more : List ℕ) (i : ℕ) → (i + 1) * width ≤ length numbers →
    row_at width (numbers ++ more) i ≡ row_at width numbers i
row_at-append width numbers more i ends =
    let e = row_begins i width in
    let begins : i * width ≤ length numbers = omega arith in
    let left : width ≤ length (drop (i * width) numbers) = omega (arith, length-drop (i * width) numbers) in
    ap (take width) (drop-append-le (i * width) numbers more begins)
    ∙ take-append-le width (drop (i * width) numbers) more left

-- the row that was added
pub row_at-last : (width : ℕ) (numbers row : List ℕ) (n : ℕ) → length numbers ≡ n * width → length row ≡ width →
    row_at width (numbers ++ row) n ≡ row
row_at-last width numbers row n whole wide =
    ap (λ k. take width (drop k (numbers ++ row))) (sym whole)
    ∙ ap (take width) (drop-append_seam numbers row)
    ∙ ap (λ k. take k row) (sym wide)
    ∙ take-length row

rows_of-append : (width : ℕ) (numbers more : List ℕ) (n : ℕ) → n * width ≤ length numbers →
    rows_of width (numbers ++ more) n ≡ rows_of width numbers n
unfolding rows_of
rows_of-append width numbers more zero ends = refl
rows_of-append width numbers more (suc n) ends =
    let e : suc n ≡ n + 1 = omega arith in
    let last : (n + 1) * width ≤ length numbers = rw (← e) ends in
    let more_rows : n * width ≤ length numbers = omega (arith, row_begins n width) in
    let rest = rows_of-append width numbers more n more_rows in
    let row = row_at-append width numbers more n last in
    cc

-- one row more
pub rows_of-more : (width : ℕ) (numbers row : List ℕ) (n : ℕ) → length numbers ≡ n * width → length row ≡ width →
    rows_of width (numbers ++ row) (n + 1) ≡ rows_of width numbers n ++ row ∷ []
unfolding rows_of
rows_of-more width numbers row n whole wide =
    let e : n + 1 ≡ suc n = omega arith in
    let rest : rows_of width (numbers ++ row) n ≡ rows_of width numbers n = rows_of-append width numbers row n
    (omega arith) in
    let last = row_at-last width numbers row n whole wide in
    rw e (cc)

-- of distinct rows no two numbers have the same
pub rows_distinct : (width : ℕ) (numbers : List ℕ) (n : ℕ) → ((i k : ℕ) → i < k → k < n →
    row_at width numbers i ≢ row_at width numbers k) →
    (i k : ℕ) (row : List ℕ) → slice_get (rows_of width numbers n) i ≡ Some row →
    slice_get (rows_of width numbers n) k ≡ Some row → i ≡ k
rows_distinct width numbers n distinct i k row first second =
    let same : row_at width numbers i ≡ row_at width numbers k =
    row_found width numbers n i row first ∙ sym (row_found width numbers n k row second) in
    let below_i = row_number width numbers n i row first in
    let below_k = row_number width numbers n k row second in
    elim (cases_lt i k) [
      | inl h ↦ absurd (distinct i k h below_k same)
      | inr h ↦ elim (cases_lt k i) [
        | inl g ↦ absurd (distinct k i g below_i (sym same))
        | inr g ↦ omega arith
      ]
    ]

-- past the last row there is none
pub no_row : (width : ℕ) (numbers : List ℕ) (n i : ℕ) → n ≤ i → slice_get (rows_of width numbers n) i ≡ None
no_row width numbers n i past =
    let end : length (rows_of width numbers n) ≤ i = omega (arith, length-rows_of width numbers n) in
    slice_get_past (rows_of width numbers n) i end

-- a row that is there is as wide as all
pub row_wide : (width : ℕ) (numbers : List ℕ) (n i : ℕ) (row : List ℕ) → length numbers ≡ n * width →
    slice_get (rows_of width numbers n) i ≡ Some row →
    length row ≡ width
row_wide width numbers n i row whole found =
    let ends = row_ends i n width (row_number width numbers n i row found) in
    let begins = row_begins i width in
    let left : width ≤ length (drop (i * width) numbers) = omega (arith, length-drop (i * width) numbers) in
    ap length (sym (row_found width numbers n i row found)) ∙ length-take-le width (drop (i * width) numbers) left

abbrev record_of : ℕ → List (List ℕ) → Rows
record_of width rows = record { width = width; rows = rows }

-- the row that was added has the next number
pub rows_interned : (width : ℕ) (numbers row : List ℕ) (n : ℕ) → length numbers ≡ n * width → length row ≡ width →
    let old : Rows = record { width = width; rows = rows_of width numbers n } in
    let new : Rows = record { width = width; rows = rows_of width (numbers ++ row) (n + 1) } in IsInterned old new row n
rows_interned width numbers row n whole wide =
    let more = rows_of-more width numbers row n whole wide in
    let below : n < n + 1 = omega arith in
    let last = row_at-last width numbers row n whole wide in
    let here = slice_get-rows_of width (numbers ++ row) (n + 1) n below ∙ ap (λ r. Some r) last in
    let same : record_of width (rows_of width (numbers ++ row) (n + 1)) ≡ record_of width
    (rows_of width numbers n ++ row ∷ []) =
    ap (record_of width) more in
    (here, inr (same, sym (length-rows_of width numbers n)))

-- what is so of a number is so of what follows from it
pub if_some : (o : Option ℕ) (P Q : ℕ → Type 0) → ((n : ℕ) → P n → Q n) → IfSome o P → IfSome o Q
if_some None P Q leads h = h
if_some (Some n) P Q leads h = leads n h
