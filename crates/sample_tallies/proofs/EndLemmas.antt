-- Ends by their rows.
use Rattle.std.proofs.Common.{◌≡◌, ℕ, zero, suc, ◌+◌, ◌<◌, ◌≤◌, true, false, List, [], ◌∷◌, ◌++◌, length, map, drop, get_or, refl, ap, sym, ◌∙◌, subst, arith, inl, inr}
use Rattle.std.specs.Prelude.{Result, Ok, Err, OnOk, OnErr}
use Rattle.std.specs.Prelude.{Option, Some, IsSome, All, unwrap_or, option_map, slice_get}
use Rattle.std.proofs.lemmas.Bool.{cases_Bool}
use Rattle.std.proofs.lemmas.List.{length-map, map-append, at_drop_more, at_drop_all}
use Rattle.std.proofs.lemmas.List.Elements.{All-push}
use Rattle.std.proofs.lemmas.Option.{same_Some, slice_get_within, slice_get-get_or, slice_get-map, get_or_from_slice_get}
use Rattle.cap_model.specs.values.CapValue.{CapValue}
use Rattle.cheri_model.specs.steps.Hart.{HartState}
use Rattle.cheri_model.specs.runs.Machine.{MachineState}
use Rattle.interner.specs.Rows.{Rows, IsRow, IsDistinct}
use Rattle.state_store.specs.Stores.{Stored, state_of, Keeps, IsOneRow}
use Rattle.state_store.proofs.NumberedLemmas.{some_of, map_some}
use Rattle.state_store.proofs.StoreLemmas.{state_of_kept}
use Rattle.state_store.proofs.SeenLemmas.{seen_count}
use Rattle.shown_states.proofs.LoadLemmas.{memory_size}
use Rattle.sample_tallies.specs.declared.seen.Seen.{Seen}
use Rattle.sample_tallies.specs.Tables.{Entry, both, with_entry, with_entries, table_of}
use Rattle.sample_tallies.specs.SameStates.{same_state}
use Rattle.sample_tallies.specs.Counts.{EndsParts, no_state, meant, IsEndRow, AreEnds, IsSeen}
use Rattle.sample_tallies.proofs.SameLemmas.{states_same}
use Rattle.sample_tallies.proofs.EntryLemmas.{seen_at, seen_new, table_get, table_key, table_long, table_set, table_more}

pub means : (store : Stored) (row : List ℕ) (s : MachineState) → state_of store row ≡ Some s → meant store row ≡ s
means store row s is = ap (λ (o : Option MachineState). unwrap_or o no_state) is

-- a row that means something means it
pub it_means : (store : Stored) (row : List ℕ) → IsSome (state_of store row)
    → state_of store row ≡ Some (meant store row)
it_means store row some =
    let s = some_of (state_of store row) some in s.1 ∙ ap (λ (t : MachineState). Some t) (sym (means store row s.0 s.1))

row_kept : (a b : Stored) (harts : ℕ) → Keeps a b → (row : List ℕ) → IsEndRow a harts row
    → IsEndRow b harts row × (meant a row ≡ meant b row)
row_kept a b harts keeps row end =
    let s = some_of (state_of a row) end.state in
    let there = state_of_kept a b keeps row s.0 s.1 in (
      record { width = end.width; state = subst (λ (o : Option MachineState). IsSome o) (sym there) refl },
      means a row s.0 s.1 ∙ sym (means b row s.0 there),
    )

head_of : {A : Type 0} (P : A → Type 0) (x : A) (xs : List A) → All P (x ∷ xs) → P x
head_of {A} P x xs all = all 0 x (omega arith)

rest_of : {A : Type 0} (P : A → Type 0) (x : A) (xs : List A) → All P (x ∷ xs) → All P xs
rest_of {A} P x xs all i d below = all (suc i) d (omega arith)

-- rows mean what they did
pub rows_kept : (a b : Stored) (harts : ℕ) → Keeps a b → (rows : List (List ℕ)) → All (IsEndRow a harts) rows
    → All (IsEndRow b harts) rows × (map (meant a) rows ≡ map (meant b) rows)
rows_kept a b harts keeps [] all = (λ i d below. absurd (omega arith), refl)
rows_kept a b harts keeps (row ∷ rows) all =
    let first = row_kept a b harts keeps row (head_of (IsEndRow a harts) row rows all) in
    let more = rows_kept a b harts keeps rows (rest_of (IsEndRow a harts) row rows all) in (
      all_of (IsEndRow b harts) row rows first.0 more.0,
      ap (λ (s : MachineState). s ∷ map (meant a) rows) first.1
          ∙ ap (λ (ss : List MachineState). meant b row ∷ ss) more.1,
    )
  where
    all_of : {A : Type 0} (P : A → Type 0) (x : A) (xs : List A) → P x → All P xs → All P (x ∷ xs)
    all_of {A} P x xs p all zero d below = p
    all_of {A} P x xs p all (suc i) d below = all i d (omega arith)

pub ends_kept : (a b : Stored) (harts : ℕ) (rows : Rows) (seen : List Seen) → Keeps a b → AreEnds a harts rows seen
    → AreEnds b harts rows seen
ends_kept a b harts rows seen keeps ends = record {
  width = ends.width;
  rows_mean = (rows_kept a b harts keeps rows.rows ends.rows_mean).0;
  as_many = ends.as_many;
}

-- the row of an end
pub end_row : (store : Stored) (harts : ℕ) (rows : Rows) (seen : List Seen) (i : ℕ) (s : MachineState)
    → AreEnds store harts rows seen → slice_get (map (meant store) rows.rows) i ≡ Some s
    → (row : List ℕ) × IsRow rows i row × (state_of store row ≡ Some s) × (length row ≡ harts + 1)
end_row store harts rows seen i s ends at =
    let row = map_some (meant store) (slice_get rows.rows i) s (sym (slice_get-map (meant store) rows.rows i) ∙ at) in
    let within = slice_get_within rows.rows i row.0 row.1 in
    let end : IsEndRow store harts row.0 =
    subst (λ (r : List ℕ). IsEndRow store harts r) (get_or_from_slice_get rows.rows i row.0 row.0 row.1)
    (ends.rows_mean i row.0 within) in
    (row.0, row.1, it_means store row.0 end.state ∙ ap (λ (t : MachineState). Some t) row.2, end.width)

-- other ends are other states
other_state : (store : Stored) (harts : ℕ) (rows : Rows) (old : List Seen) (row : List ℕ) (state : MachineState)
    → AreEnds store harts rows old → IsOneRow store → state_of store row ≡ Some state → (i : ℕ) (d : Entry MachineState)
    → (IsRow rows i row → (false ≡ true))
    → slice_get (table_of (map (meant store) rows.rows) old) i ≡ Some d → same_state d.key state ≡ false
other_state store harts rows old row state ends one is i d apart at = elim (cases_Bool (same_state d.key state)) [
  | inl hit ↦
      let same = states_same.reflects d.key state hit in
      let there = end_row store harts rows old i d.key ends (table_key (map (meant store) rows.rows) old i d at) in
      let equal = one there.0 row state (there.2 ∙ ap (λ (t : MachineState). Some t) same) is in
      hit ∙ sym (apart (there.1 ∙ ap (λ (r : List ℕ). Some r) equal))
  | inr miss ↦ miss
]

-- what was seen of a row is seen of its state
pub ends_seen : (store : Stored) (harts : ℕ) (rows rows' : Rows) (row : List ℕ) (state : MachineState) (seen : Seen)
    (old new : List Seen) → AreEnds store harts rows old → IsOneRow store → IsDistinct rows
    → state_of store row ≡ Some state → IsSeen rows rows' row seen old new
    → table_of (map (meant store) rows'.rows) new
    ≡ with_entry same_state (table_of (map (meant store) rows.rows) old) (record { key = state; seen = seen })
ends_seen store harts rows rows' row state seen old new ends one distinct is (inl again) =
    let k = again.0 in
    let keys = map (meant store) rows.rows in
    let more : Entry MachineState = record { key = state; seen = seen } in
    let key : slice_get keys k.number ≡ Some state =
    slice_get-map (meant store) rows.rows k.number ∙ ap (λ (o : Option (List ℕ)). option_map (meant store) o) k.there
    ∙ ap (λ (t : MachineState). Some t) (means store row state is) in
    let at = table_get keys old k.number state k.before key k.was in
    let found = seen_at same_state (table_of keys old) k.number (record { key = state; seen = k.before }) more at
    (states_same.itself state)
    (λ i d below there. other_state store harts rows old row state ends one is i d
    (λ here. let equal = distinct i k.number row here k.there in absurd (omega arith)) there) in
    ap (λ (r : Rows). table_of (map (meant store) r.rows) new) again.1
    ∙ ap (table_of keys) k.sum
    ∙ sym (table_set keys old k.number state (both k.before seen) key)
    ∙ sym found
ends_seen store harts rows rows' row state seen old new ends one distinct is (inr first) =
    let keys = map (meant store) rows.rows in
    let more : Entry MachineState = record { key = state; seen = seen } in
    let found = seen_new same_state (table_of keys old) more
    (λ i d there. other_state store harts rows old row state ends one is i d
    (λ here. absurd (first.absent i here)) there) in
    let even : length old ≡ length keys = ends.as_many ∙ sym (length-map rows.rows (meant store)) in
    ap (λ (r : Rows). table_of (map (meant store) r.rows) new) first.added
    ∙ ap (λ (ks : List MachineState). table_of ks new) (map-append (meant store) rows.rows (row ∷ [])
    ∙ ap (λ (t : MachineState). keys ++ t ∷ []) (means store row state is))
    ∙ ap (table_of (keys ++ state ∷ [])) first.last
    ∙ sym (table_more keys old state seen even)
    ∙ sym found

-- all rows mean a state yet
pub ends_more : (store : Stored) (harts : ℕ) (rows rows' : Rows) (row : List ℕ) (state : MachineState) (seen : Seen)
    (old new : List Seen) → AreEnds store harts rows old → length row ≡ harts + 1 → state_of store row ≡ Some state
    → IsSeen rows rows' row seen old new → length new ≡ length rows'.rows → AreEnds store harts rows' new
ends_more store harts rows rows' row state seen old new ends width is (inl again) as_many =
    record {
      width = ap (λ (r : Rows). r.width) again.1 ∙ ends.width;
      rows_mean = subst (λ (r : Rows). All (IsEndRow store harts) r.rows) (sym again.1) ends.rows_mean;
      as_many = as_many;
    }
ends_more store harts rows rows' row state seen old new ends width is (inr first) as_many =
    let end : IsEndRow store harts row = record {
      width = width;
      state = subst (λ (o : Option MachineState). IsSome o) (sym is) refl;
    } in
    record {
      width = ap (λ (r : Rows). r.width) first.added ∙ ends.width;
      rows_mean = subst (λ (r : Rows). All (IsEndRow store harts) r.rows) (sym first.added)
          (All-push (IsEndRow store harts) rows.rows row ends.rows_mean end);
      as_many = as_many;
    }

-- nothing changed but the store
pub ends_same : (a b : Stored) (harts : ℕ) (rows rows' : Rows) (old new : List Seen) → Keeps a b
    → AreEnds a harts rows old → rows' ≡ rows → new ≡ old → AreEnds b harts rows' new
ends_same a b harts rows rows' old new keeps ends same also =
    subst (λ (r : Rows). AreEnds b harts r new) (sym same)
    (subst (λ (s : List Seen). AreEnds b harts rows s) (sym also) (ends_kept a b harts rows old keeps ends))

-- the whole: a state is seen
pub state_seen : (a b : Stored) (harts : ℕ) (rows rows' : Rows) (row : List ℕ) (state : MachineState) (seen : Seen)
    (old new : List Seen) → Keeps a b → AreEnds a harts rows old → IsOneRow b → IsDistinct rows
    → state_of b row ≡ Some state → IsSeen rows rows' row seen old new
    → table_of (map (meant b) rows'.rows) new
    ≡ with_entry same_state (table_of (map (meant a) rows.rows) old) (record { key = state; seen = seen })
state_seen a b harts rows rows' row state seen old new keeps ends one distinct is counted =
    ends_seen b harts rows rows' row state seen old new (ends_kept a b harts rows old keeps ends) one distinct is counted
    ∙ ap (λ (ks : List MachineState). with_entry same_state (table_of ks old) (record { key = state; seen = seen }))
    (sym (rows_kept a b harts keeps rows.rows ends.rows_mean).1)

-- how many there are
pub table_size : (store : Stored) (harts : ℕ) (rows : Rows) (seen : List Seen) → AreEnds store harts rows seen
    → length (table_of (map (meant store) rows.rows) seen) ≡ length rows.rows
table_size store harts rows seen ends =
    let keys : length (map (meant store) rows.rows) ≡ length rows.rows = length-map rows.rows (meant store) in
    table_long (map (meant store) rows.rows) seen (ends.as_many ∙ sym keys) ∙ keys

-- the row of an end, as it is read
pub record IsEnd (store : Stored) (harts : ℕ) (row : List ℕ) (key : MachineState) : Type 0 where
  pub state : state_of store row ≡ Some key
  pub width : length row ≡ harts + 1

pub end_read : (store : Stored) (harts : ℕ) (rows : Rows) (seen : List Seen) (number : ℕ) (row : List ℕ)
    (end : Entry MachineState) → AreEnds store harts rows seen → Some row ≡ slice_get rows.rows number
    → slice_get (table_of (map (meant store) rows.rows) seen) number ≡ Some end → IsEnd store harts row end.key
end_read store harts rows seen number row end ends is at =
    let r = end_row store harts rows seen number end.key ends (table_key (map (meant store) rows.rows) seen number end at) in
    let same : r.0 ≡ row = same_Some r.0 row (sym r.1 ∙ sym is) in
    record {
      state = ap (state_of store) (sym same) ∙ r.2;
      width = ap length (sym same) ∙ r.3;
    }

pub row_wide : (store : Stored) (harts : ℕ) (rows : Rows) (seen : List Seen) (number : ℕ) (row : List ℕ)
    → AreEnds store harts rows seen → Some row ≡ slice_get rows.rows number → length row ≡ harts + 1
row_wide store harts rows seen number row ends is =
    let at = sym is in
    let within = slice_get_within rows.rows number row at in
    let end : IsEndRow store harts row =
    subst (λ (r : List ℕ). IsEndRow store harts r) (get_or_from_slice_get rows.rows number row row at)
    (ends.rows_mean number row within) in
    end.width

abbrev pub ends_with : (harts granules : ℕ) → Option (List CapValue) → List (Entry MachineState) → EndsParts
ends_with harts granules opening table =
    record { harts = harts; granules = granules; opening = opening; table = table }

-- after a row was seen, or refused
pub ends_after : {R E : Type 0} (result : Result R E) (a b : Stored) (harts : ℕ) (rows rows' : Rows) (row : List ℕ)
    (state : MachineState) (seen : Seen) (old new : List Seen) → Keeps a b → AreEnds a harts rows old
    → length row ≡ harts + 1 → state_of b row ≡ Some state → OnOk result (IsSeen rows rows' row seen old new)
    → OnErr result (rows' ≡ rows) → OnErr result (new ≡ old) → length new ≡ length rows'.rows
    → AreEnds b harts rows' new
ends_after {R} {E} (Ok r) a b harts rows rows' row state seen old new keeps ends width is counted same also as_many =
    ends_more b harts rows rows' row state seen old new (ends_kept a b harts rows old keeps ends) width is counted as_many
ends_after {R} {E} (Err e) a b harts rows rows' row state seen old new keeps ends width is counted same also as_many =
    ends_same a b harts rows rows' old new keeps ends same also

pub table_after : {R E : Type 0} (result : Result R E) (a b : Stored) (harts : ℕ) (rows rows' : Rows) (row : List ℕ)
    (state : MachineState) (seen : Seen) (old new : List Seen) (table : List (Entry MachineState)) → Keeps a b
    → AreEnds a harts rows old → IsOneRow b → IsDistinct rows → state_of b row ≡ Some state
    → table_of (map (meant a) rows.rows) old ≡ table → OnOk result (IsSeen rows rows' row seen old new)
    → OnOk result (table_of (map (meant b) rows'.rows) new
    ≡ with_entry same_state table (record { key = state; seen = seen }))
table_after {R} {E} (Ok r) a b harts rows rows' row state seen old new table keeps ends one distinct is view counted =
    state_seen a b harts rows rows' row state seen old new keeps ends one distinct is counted
    ∙ ap (λ (t : List (Entry MachineState)). with_entry same_state t (record { key = state; seen = seen })) view
table_after {R} {E} (Err e) a b harts rows rows' row state seen old new table keeps ends one distinct is view counted =
    counted

no_end : Entry MachineState
no_end = record { key = no_state; seen = record { runs = 0; first = 0 } }

-- an end that is there
pub end_at : (table : List (Entry MachineState)) (n : ℕ) → n < length table
    → (end : Entry MachineState) × (slice_get table n ≡ Some end)
end_at table n below = (get_or table n no_end, slice_get-get_or table n no_end below)

-- an end of others more
pub other_end : (others before after whole : List (Entry MachineState)) (n : ℕ) (end : Entry MachineState)
    → n < length others → slice_get others n ≡ Some end → after ≡ with_entry same_state before end
    → with_entries same_state before (drop n others) ≡ whole
    → with_entries same_state after (drop (n + 1) others) ≡ whole
other_end others before after whole n end below at more all =
    let is : get_or others n end ≡ end = get_or_from_slice_get others n end end at in
    ap (λ (t : List (Entry MachineState)). with_entries same_state t (drop (n + 1) others)) more
    ∙ ap (λ (e : Entry MachineState). with_entries same_state before (e ∷ drop (n + 1) others)) (sym is)
    ∙ sym (at_drop_more (λ es. with_entries same_state before es) others n end below) ∙ all

pub others_done : (others now whole : List (Entry MachineState)) (n : ℕ) → length others ≤ n
    → with_entries same_state now (drop n others) ≡ whole → now ≡ whole
others_done others now whole n past all =
    sym (at_drop_all (λ es. with_entries same_state now es) others n past) ∙ all

-- the size of a state that was loaded
pub loaded_size : (store : Stored) (row : List ℕ) (s loaded : MachineState) (harts granules : ℕ)
    → state_of store row ≡ Some s → loaded ≡ s → length row ≡ harts + 1 → store.granules ≡ granules
    → (length loaded.harts ≡ harts) × (length loaded.memory ≡ granules)
loaded_size store row s loaded harts granules is same width size =
    let count = seen_count store row s is in
    let memory = memory_size store row s is in
    let hart_count : length s.harts ≡ harts = omega arith in (
      ap (λ (t : MachineState). length t.harts) same ∙ hart_count,
      ap (λ (t : MachineState). length t.memory) same ∙ memory ∙ size,
    )

abbrev entry_with : List HartState → List CapValue → Seen → Entry MachineState
entry_with harts memory seen = record { key = record { harts = harts; memory = memory }; seen = seen }

-- an end that was loaded
pub entry_made : (end : Entry MachineState) (harts : List HartState) (memory : List CapValue) (seen : Seen)
    (loaded : MachineState) → harts ≡ loaded.harts → memory ≡ loaded.memory → loaded ≡ end.key → seen ≡ end.seen
    → entry_with harts memory seen ≡ end
entry_made end harts memory seen loaded hs ms same also =
    let made : entry_with harts memory seen ≡ entry_with loaded.harts loaded.memory end.seen = cc in
    made ∙ ap (λ (s : MachineState). entry_with s.harts s.memory end.seen) same
