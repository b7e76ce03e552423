-- Traps by their places.
use Rattle.std.proofs.Common.{◌≡◌, ℕ, ◌+◌, ◌<◌, ◌≤◌, Bool, true, false, List, [], ◌∷◌, ◌++◌, length, map, get_or, drop, ap, sym, ◌∙◌, arith, inl, inr}
use Rattle.std.specs.Prelude.{Option, Some, slice_get, slice_set, option_map}
use Rattle.std.proofs.lemmas.Bool.{cases_eq}
use Rattle.std.proofs.lemmas.List.{map-append, map-set, at_drop_more, at_drop_all}
use Rattle.std.proofs.lemmas.List.Sums.{fold-append}
use Rattle.std.proofs.lemmas.Option.{same_Some, slice_get-map, slice_get-get_or}
use Rattle.cheri_model.specs.declared.trace.Status.{Status}
use Rattle.cheri_model.specs.steps.Hart.{HartState}
use Rattle.state_store.proofs.NumberedLemmas.{map_some}
use Rattle.sample_tallies.specs.declared.seen.Seen.{Seen}
use Rattle.sample_tallies.specs.declared.seen.TrapPlace.{TrapPlace}
use Rattle.sample_tallies.specs.declared.seen.TrapSeen.{TrapSeen}
use Rattle.sample_tallies.specs.Tables.{Entry, both, with_entry, with_entries}
use Rattle.sample_tallies.specs.SameStates.{same_place}
use Rattle.sample_tallies.specs.Tallies.{trap_of, traps_from}
use Rattle.sample_tallies.specs.Counts.{entry_of}
use Rattle.sample_tallies.proofs.EntryLemmas.{seen_at, seen_new}

-- one item more that doesn't pass
pub none_more : {A : Type 0} (test : A → Bool) (xs : List A) (n : ℕ) (d x : A) → n < length xs → x ≡ get_or xs n d
    → test x ≡ false → ((i : ℕ) (y : A) → i < n → slice_get xs i ≡ Some y → test y ≡ false)
    → (i : ℕ) (y : A) → i < n + 1 → slice_get xs i ≡ Some y → test y ≡ false
none_more {A} test xs n d x within is fails before i y below at = elim (cases_eq i n) [
  | inl last ↦
      let here : Some (get_or xs n d) ≡ Some y = sym (slice_get-get_or xs n d within) ∙ ap (slice_get xs) (sym last) ∙ at in
      ap test (sym (is ∙ same_Some (get_or xs n d) y here)) ∙ fails
  | inr other ↦ before i y (omega arith) at
]

of_entry : (traps : List TrapSeen) (place : TrapPlace) (i : ℕ) (d : Entry TrapPlace)
    → ((t : TrapSeen) → slice_get traps i ≡ Some t → same_place t.place place ≡ false)
    → slice_get (map entry_of traps) i ≡ Some d → same_place d.key place ≡ false
of_entry traps place i d apart at =
    let t = map_some entry_of (slice_get traps i) d (sym (slice_get-map entry_of traps i) ∙ at) in
    ap (λ (e : Entry TrapPlace). same_place e.key place) (sym t.2) ∙ apart t.0 t.1

-- a trap that was not seen before
pub trap_new : (traps : List TrapSeen) (trap : TrapSeen)
    → ((i : ℕ) (t : TrapSeen) → slice_get traps i ≡ Some t → same_place t.place trap.place ≡ false)
    → map entry_of (traps ++ trap ∷ []) ≡ with_entry same_place (map entry_of traps) (entry_of trap)
trap_new traps trap apart =
    map-append entry_of traps (trap ∷ [])
    ∙ sym (seen_new same_place (map entry_of traps) (entry_of trap)
    (λ i d at. of_entry traps trap.place i d (apart i) at))

-- one that was
pub trap_again : (traps : List TrapSeen) (n : ℕ) (known trap : TrapSeen) → slice_get traps n ≡ Some known
    → same_place known.place trap.place ≡ true
    → ((i : ℕ) (t : TrapSeen) → i < n → slice_get traps i ≡ Some t → same_place t.place trap.place ≡ false)
    → map entry_of (slice_set traps n (record known { seen = both known.seen trap.seen }))
    ≡ with_entry same_place (map entry_of traps) (entry_of trap)
trap_again traps n known trap at hit apart =
    let entry : slice_get (map entry_of traps) n ≡ Some (entry_of known) =
    slice_get-map entry_of traps n ∙ ap (λ (o : Option TrapSeen). option_map entry_of o) at in
    map-set entry_of traps n (record known { seen = both known.seen trap.seen })
    ∙ sym (seen_at same_place (map entry_of traps) n (entry_of known) (entry_of trap) entry hit
    (λ i d below there. of_entry traps trap.place i d (λ t is. apart i t below is) there))

-- what was seen of a trap is put in its place
pub trap_put : (traps : List TrapSeen) (n : ℕ) (known held trap : TrapSeen) (sum : Seen) → n < length traps
    → known ≡ get_or traps n known → held ≡ get_or traps n held → sum ≡ both held.seen trap.seen
    → ((t : TrapSeen) → slice_get traps n ≡ Some t → same_place t.place trap.place ≡ true)
    → ((i : ℕ) (t : TrapSeen) → i < n → slice_get traps i ≡ Some t → same_place t.place trap.place ≡ false)
    → map entry_of (slice_set traps n (record { place = known.place; seen = sum }))
    ≡ with_entry same_place (map entry_of traps) (entry_of trap)
trap_put traps n known held trap sum within is also sum_is hit apart =
    let at : slice_get traps n ≡ Some known =
    slice_get-get_or traps n known within ∙ ap (λ (t : TrapSeen). Some t) (sym is) in
    let same : held ≡ known = same_Some held known
    (ap (λ (t : TrapSeen). Some t) also ∙ sym (slice_get-get_or traps n held within) ∙ at) in
    let seen : sum ≡ both known.seen trap.seen = sum_is ∙ ap (λ (t : TrapSeen). both t.seen trap.seen) same in
    ap (λ (s : Seen). map entry_of (slice_set traps n (record { place = known.place; seen = s }))) seen
    ∙ trap_again traps n known trap at (hit known at) apart

-- the traps of harts from a place on
pub traps_step : (harts : List HartState) (n : ℕ) (d : HartState) (seen : Seen) → n < length harts
    → traps_from n (drop n harts) seen
    ≡ trap_of n (get_or harts n d).status seen ++ traps_from (n + 1) (drop (n + 1) harts) seen
unfolding traps_from
traps_step harts n d seen below = at_drop_more (λ hs. traps_from n hs seen) harts n d below

pub traps_end : (harts : List HartState) (n : ℕ) (seen : Seen) → length harts ≤ n
    → traps_from n (drop n harts) seen ≡ []
unfolding traps_from
traps_end harts n seen past = at_drop_all (λ hs. traps_from n hs seen) harts n past

-- a hart more
pub hart_more : (harts : List HartState) (n : ℕ) (d : HartState) (status : Status) (seen : Seen)
    (before after whole : List (Entry TrapPlace)) → n < length harts → status ≡ (get_or harts n d).status
    → after ≡ with_entries same_place before (trap_of n status seen)
    → with_entries same_place before (traps_from n (drop n harts) seen) ≡ whole
    → with_entries same_place after (traps_from (n + 1) (drop (n + 1) harts) seen) ≡ whole
hart_more harts n d status seen before after whole below is more all =
    ap (λ (t : List (Entry TrapPlace)). with_entries same_place t (traps_from (n + 1) (drop (n + 1) harts) seen)) more
    ∙ sym (fold-append (with_entry same_place) before (trap_of n status seen)
    (traps_from (n + 1) (drop (n + 1) harts) seen))
    ∙ ap (λ (s : Status). with_entries same_place before
    (trap_of n s seen ++ traps_from (n + 1) (drop (n + 1) harts) seen)) is
    ∙ sym (ap (with_entries same_place before) (traps_step harts n d seen below)) ∙ all

pub harts_end : (harts : List HartState) (n : ℕ) (seen : Seen) (now whole : List (Entry TrapPlace)) → length harts ≤ n
    → with_entries same_place now (traps_from n (drop n harts) seen) ≡ whole → now ≡ whole
harts_end harts n seen now whole past all =
    sym (ap (with_entries same_place now) (traps_end harts n seen past)) ∙ all

-- a trap of others more
pub other_more : (traps : List TrapSeen) (n : ℕ) (d trap : TrapSeen) (before after whole : List (Entry TrapPlace))
    → n < length traps → trap ≡ get_or traps n d → after ≡ with_entry same_place before (entry_of trap)
    → with_entries same_place before (map entry_of (drop n traps)) ≡ whole
    → with_entries same_place after (map entry_of (drop (n + 1) traps)) ≡ whole
other_more traps n d trap before after whole below is more all =
    ap (λ (t : List (Entry TrapPlace)). with_entries same_place t (map entry_of (drop (n + 1) traps))) more
    ∙ ap (λ (t : TrapSeen). with_entries same_place before (entry_of t ∷ map entry_of (drop (n + 1) traps))) is
    ∙ sym (at_drop_more (λ ts. with_entries same_place before (map entry_of ts)) traps n d below) ∙ all

pub others_end : (traps : List TrapSeen) (n : ℕ) (now whole : List (Entry TrapPlace)) → length traps ≤ n
    → with_entries same_place now (map entry_of (drop n traps)) ≡ whole → now ≡ whole
others_end traps n now whole past all =
    sym (at_drop_all (λ ts. with_entries same_place now (map entry_of ts)) traps n past) ∙ all
