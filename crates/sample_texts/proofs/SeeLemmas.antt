-- Rows of values, as ends are added to them.
use Rattle.std.proofs.Common.{◌≡◌, ℕ, ◌+◌, ◌<◌, ◌≤◌, false, true, List, [], ◌∷◌, ◌++◌, length, map, drop, get_or, refl, ap, sym, ◌∙◌, arith, inl, inr}
use Rattle.std.specs.Prelude.{Some, option_map, slice_get, slice_set}
use Rattle.std.proofs.Math.Seq.{map-set_same}
use Rattle.std.proofs.lemmas.Bool.{cases_Bool}
use Rattle.std.proofs.lemmas.List.{length-map, map-append, map-set, at_drop_more, at_drop_all}
use Rattle.std.proofs.lemmas.Option.{same_Some, slice_get_within, slice_get-get_or, slice_get-map, get_or_from_slice_get}
use Rattle.cheri_model.specs.runs.Machine.{MachineState}
use Rattle.conditions.specs.declared.parts.Shown.{Shown}
use Rattle.interner.specs.Rows.{Rows, IsRow, IsDistinct, IsInterned}
use Rattle.outcomes.specs.Items.{codes_of, value_of, values_of}
use Rattle.outcomes.specs.declared.items.ItemValue.{ItemValue}
use Rattle.outcomes.proofs.CodeLemmas.{codes_same}
use Rattle.outcomes.proofs.TableLemmas.{interned_rows}
use Rattle.sample_tallies.specs.declared.seen.Seen.{Seen}
use Rattle.sample_tallies.specs.Tables.{Entry, both, with_entry, with_entries}
use Rattle.sample_tallies.proofs.EntryLemmas.{seen_at, seen_new}
use Rattle.sample_tallies.proofs.OrderLemmas.{picked_at}
use Rattle.state_store.proofs.NumberedLemmas.{get-append, map_some}
use Rattle.sample_texts.specs.declared.table.ShownRow.{ShownRow}
use Rattle.sample_texts.specs.ShownRows.{AreNumbered, row_of, rows_of, same_row, shown_part, shown_rows}
use Rattle.sample_texts.proofs.RowLemmas.{one_row, row_itself}

code_of : ShownRow → List ℕ
code_of row = codes_of row.values.items

-- the numbers of the entry at a place
codes_at : (codes : Rows) (rows : List ShownRow) (i : ℕ) (e : Entry (List ItemValue)) → AreNumbered codes rows
    → slice_get (rows_of rows) i ≡ Some e → slice_get codes.rows i ≡ Some (codes_of e.key)
codes_at codes rows i e numbered at =
    let r = map_some shown_part (slice_get rows i) e (sym (slice_get-map shown_part rows i) ∙ at) in
    ap (λ (l : List (List ℕ)). slice_get l i) numbered
    ∙ slice_get-map (λ (row : ShownRow). codes_of row.values.items) rows i
    ∙ ap (option_map (λ (row : ShownRow). codes_of row.values.items)) r.1
    ∙ ap (λ (x : Entry (List ItemValue)). Some (codes_of x.key)) r.2

-- a row at another place has other values
other_row : (codes : Rows) (values : List ItemValue) (i number : ℕ) (e : Entry (List ItemValue)) → IsDistinct codes
    → IsRow codes number (codes_of values) → (i ≡ number → false ≡ true) → slice_get codes.rows i ≡ Some (codes_of e.key)
    → same_row e.key values ≡ false
other_row codes values i number e distinct here apart at = elim (cases_Bool (same_row e.key values)) [
  | inl hit ↦
      let same = one_row e.key values hit in
      let also : slice_get codes.rows i ≡ Some (codes_of values) =
      at ∙ ap (λ (vs : List ItemValue). Some (codes_of vs)) same in
      hit ∙ sym (apart (distinct i number (codes_of values) also here))
  | inr miss ↦ miss
]

-- rows after an end was added, which are numbered yet
pub record IsSeen (codes : Rows) (rows : List ShownRow) (row : ShownRow) (more : List ShownRow) : Type 0 where
  pub numbered : AreNumbered codes more
  pub rows_are : rows_of more ≡ with_entry same_row (rows_of rows) (shown_part row)

numbered_size : (codes : Rows) (rows : List ShownRow) → AreNumbered codes rows → length codes.rows ≡ length rows
numbered_size codes rows numbered =
    ap length numbered ∙ length-map rows (λ (row : ShownRow). codes_of row.values.items)

-- no row was added where the number is one of theirs
same_codes : (old new : Rows) (rows : List ShownRow) (code : List ℕ) (number : ℕ) → AreNumbered old rows
    → IsInterned old new code number → number < length rows → new.rows ≡ old.rows
same_codes old new rows code number numbered is below =
    let size = numbered_size old rows numbered in
    elim (interned_rows old new code number is).1 [
      | inl same ↦ same
      | inr grown ↦ absurd (omega (arith, grown.1, size, below))
    ]

abbrev grown_row : ShownRow → ShownRow → ShownRow
grown_row r row = record r { seen = both r.seen row.seen }

pub seen_again : (old new : Rows) (rows more : List ShownRow) (row d : ShownRow) (number : ℕ) → AreNumbered old rows
    → IsDistinct new → IsInterned old new (codes_of row.values.items) number → number < length rows
    → more ≡ slice_set rows number (grown_row (get_or rows number d) row) → IsSeen new rows row more
seen_again old new rows more row d number numbered distinct is below set =
    let code : ShownRow → List ℕ = λ row. codes_of row.values.items in
    let r = get_or rows number d in
    let same = same_codes old new rows (code row) number numbered is below in
    let still : AreNumbered new rows = same ∙ numbered in
    let here = (interned_rows old new (code row) number is).0 in
    let at : slice_get rows number ≡ Some r = slice_get-get_or rows number d below in
    let entry : slice_get (rows_of rows) number ≡ Some (shown_part r) =
    slice_get-map shown_part rows number ∙ ap (option_map shown_part) at in
    let coded = codes_at new rows number (shown_part r) still entry in
    let values : r.values.items ≡ row.values.items =
    codes_same r.values.items row.values.items (same_Some (code r) (code row) (sym coded ∙ here)) in
    let hit : same_row r.values.items row.values.items ≡ true =
    ap (λ (vs : List ItemValue). same_row vs row.values.items) values ∙ row_itself row.values.items in
    let found = seen_at same_row (rows_of rows) number (shown_part r) (shown_part row) entry hit
    (λ i e under there. other_row new row.values.items i number e distinct here (λ equal. absurd (omega (arith, equal, under)))
    (codes_at new rows i e still there)) in
    record {
      numbered =
          still ∙ sym (ap (map code) set ∙ map-set_same code rows number (grown_row r row) d refl);
      rows_are =
          ap rows_of set ∙ map-set shown_part rows number (grown_row r row) ∙ sym found;
    }

pub seen_first : (old new : Rows) (rows more : List ShownRow) (row : ShownRow) (number : ℕ) → AreNumbered old rows
    → IsDistinct new → IsInterned old new (codes_of row.values.items) number → length rows ≤ number
    → more ≡ rows ++ row ∷ [] → IsSeen new rows row more
seen_first old new rows more row number numbered distinct is past pushed =
    let code : ShownRow → List ℕ = λ row. codes_of row.values.items in
    let size = numbered_size old rows numbered in
    let interned = interned_rows old new (code row) number is in
    let added : new.rows ≡ old.rows ++ code row ∷ [] = elim interned.1 [
      | inl same ↦
          let low = slice_get_within new.rows number (code row) interned.0 in
          let long : length new.rows ≡ length old.rows = ap length same in
          absurd (omega (arith, low, long, size, past))
      | inr grown ↦ grown.0
    ] in
    let found = seen_new same_row (rows_of rows) (shown_part row)
    (λ i e there.
    let under = slice_get_within (rows_of rows) i e there in
    let long : length (rows_of rows) ≡ length rows = length-map rows shown_part in
    other_row new row.values.items i number e distinct interned.0 (λ equal. absurd (omega (arith, equal, under, long, past)))
    (ap (λ (l : List (List ℕ)). slice_get l i) added
    ∙ get-append old.rows (code row ∷ []) i (codes_of e.key) (codes_at old rows i e numbered there))) in
    record {
      numbered =
          added ∙ ap (λ (l : List (List ℕ)). l ++ code row ∷ []) numbered
          ∙ sym (ap (map code) pushed ∙ map-append code rows (row ∷ []));
      rows_are =
          ap rows_of pushed ∙ map-append shown_part rows (row ∷ []) ∙ sym found;
    }

-- ---- ends, one by one

-- the ends so far and those that are left
abbrev pub IsSoFar : List Shown → List (Entry MachineState) → ℕ → List ShownRow → Type 0
IsSoFar shown ends i rows =
    with_entries same_row (rows_of rows) (map (row_of shown) (drop i ends)) ≡ shown_rows shown ends

pub none_seen : (shown : List Shown) (ends : List (Entry MachineState)) (rows : List ShownRow) → rows ≡ []
    → IsSoFar shown ends 0 rows
unfolding shown_rows
none_seen shown ends rows is =
    ap (λ (l : List ShownRow). with_entries same_row (rows_of l) (map (row_of shown) ends)) is

abbrev entry_with : List ItemValue → Seen → Entry (List ItemValue)
entry_with values seen = record { key = values; seen = seen }

pub end_seen : (shown : List Shown) (table ends : List (Entry MachineState)) (order : List ℕ) (i d : ℕ)
    (rows more : List ShownRow) (row : ShownRow) (end : Entry MachineState)
    → map (slice_get table) order ≡ map (λ (e : Entry MachineState). Some e) ends → i < length order
    → slice_get table (get_or order i d) ≡ Some end → row.values.items ≡ values_of shown end.key → row.seen ≡ end.seen
    → rows_of more ≡ with_entry same_row (rows_of rows) (shown_part row)
    → IsSoFar shown ends i rows → IsSoFar shown ends (i + 1) more
end_seen shown table ends order i d rows more row end sorted below at values seen added so_far =
    let picked = picked_at table order ends i d sorted below in
    let here : end ≡ picked.0 = same_Some end picked.0 (sym at ∙ picked.2) in
    let within = slice_get_within ends i picked.0 picked.1 in
    let is : get_or ends i end ≡ end = get_or_from_slice_get ends i picked.0 end picked.1 ∙ sym here in
    let entry : shown_part row ≡ row_of shown end =
    ap (λ (vs : List ItemValue). entry_with vs row.seen) values ∙ ap (entry_with (values_of shown end.key)) seen in
    ap (λ (t : List (Entry (List ItemValue))). with_entries same_row t (map (row_of shown) (drop (i + 1) ends)))
    (added ∙ ap (with_entry same_row (rows_of rows)) entry)
    ∙ ap (λ (e : Entry MachineState). with_entries same_row (rows_of rows)
    (map (row_of shown) (e ∷ drop (i + 1) ends))) (sym is)
    ∙ sym (at_drop_more (λ es. with_entries same_row (rows_of rows) (map (row_of shown) es)) ends i end within)
    ∙ so_far

pub all_seen : (shown : List Shown) (table ends : List (Entry MachineState)) (order : List ℕ) (i : ℕ) (rows : List ShownRow)
    → map (slice_get table) order ≡ map (λ (e : Entry MachineState). Some e) ends → length order ≤ i
    → IsSoFar shown ends i rows → rows_of rows ≡ shown_rows shown ends
all_seen shown table ends order i rows sorted past so_far =
    let long : length order ≡ length ends =
    sym (length-map order (slice_get table)) ∙ ap length sorted ∙ length-map ends (λ (e : Entry MachineState). Some e) in
    let gone : length ends ≤ i = omega (arith, long, past) in
    sym (at_drop_all (λ es. with_entries same_row (rows_of rows) (map (row_of shown) es)) ends i gone) ∙ so_far

-- as many values as items
pub values_size : (shown : List Shown) (state : MachineState) → length (values_of shown state) ≡ length shown
unfolding values_of
values_size shown state = length-map shown (value_of state)

-- the same as it is put in place
abbrev row_with : ShownRow → Seen → ShownRow
row_with row seen = record row { seen = seen }

pub seen_put : (old new : Rows) (rows : List ShownRow) (row put from : ShownRow) (seen : Seen) (number : ℕ)
    → AreNumbered old rows → IsDistinct new → IsInterned old new (codes_of row.values.items) number → number < length rows
    → put ≡ get_or rows number put → from ≡ get_or rows number from → seen ≡ both from.seen row.seen
    → IsSeen new rows row (slice_set rows number (row_with put seen))
seen_put old new rows row put from seen number numbered distinct is below at also sum =
    let r = get_or rows number put in
    let same : get_or rows number from ≡ r = get_or_from_slice_get rows number r from (slice_get-get_or rows number put below) in
    let whole : seen ≡ both r.seen row.seen = sum ∙ ap (λ (x : ShownRow). both x.seen row.seen) (also ∙ same) in
    let made : row_with put seen ≡ grown_row r row =
    ap (λ (x : ShownRow). row_with x seen) at ∙ ap (row_with r) whole in
    seen_again old new rows (slice_set rows number (row_with put seen)) row put number numbered distinct is below
    (ap (slice_set rows number) made)
