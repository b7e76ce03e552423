-- What a table of slots keeps.
use Rattle.std.proofs.Common.{◌≡◌, ◌≢◌, ℕ, zero, suc, ◌+◌, ◌-◌, ◌*◌, ◌<◌, ◌≤◌, ◌^◌, List, [], ◌∷◌, ◌++◌, length, arith, ap, sym, ◌∙◌, refl, subst, inl, inr, length-append}
use Rattle.std.specs.Prelude.{slice_index}
use Rattle.std.proofs.lemmas.Bool.{cases_lt, cases_eq}
use Rattle.std.proofs.lemmas.Nat.{div-mul-add, mod-mul-add}
use Rattle.interner.specs.Hashes.{tag_of, home_of}
use Rattle.interner.specs.Rows.{row_at}
use Rattle.interner.specs.Slots.{slot_of, tag_in, link_in, tag_at, HasPlace, IsPut, IsInterner}
use Rattle.interner.proofs.RowLemmas.{row_at-append, row_at-last, row_ends, row_begins}

pub slot_some : (t i : ℕ) → 0 < slot_of t i
unfolding slot_of
slot_some t i = omega arith

pub tag_slot : (t i : ℕ) → i + 1 < 2 ^ 32 → tag_in (slot_of t i) ≡ t
unfolding slot_of tag_in
tag_slot t i few = div-mul-add t (2 ^ 32) (i + 1) few

pub link_slot : (t i : ℕ) → i + 1 < 2 ^ 32 → link_in (slot_of t i) ≡ i + 1
unfolding slot_of link_in
link_slot t i few = mod-mul-add t (2 ^ 32) (i + 1) few

-- an open slot more at the end changes no place
pub open_more : (slots : List ℕ) (p : ℕ) → slice_index (slots ++ 0 ∷ []) p ≡ slice_index slots p
open_more [] zero = refl
open_more [] (suc p) = refl
open_more (x ∷ xs) zero = refl
open_more (x ∷ xs) (suc p) = open_more xs p

-- what was put is in its place
pub put_place : (old new : List ℕ) (homes slot place : ℕ) → IsPut old new slot place →
    home_of (tag_in slot) homes ≤ place →
    ((p : ℕ) → home_of (tag_in slot) homes ≤ p → p < place → 0 < slice_index old p) → HasPlace new homes slot
put_place old new homes slot place put after met = (
  place,
  record {
    here = put.here;
    after = after;
    met = λ p from before.
        let other : p ≢ place = λ same. omega arith in
        rw (put.others p other) (met p from before);
  },
)

-- what has a place keeps it
pub put_keeps : (old new : List ℕ) (homes slot place s : ℕ) → 0 < slot → IsPut old new slot place → 0 < s →
    HasPlace old homes s → HasPlace new homes s
put_keeps old new homes slot place s some put used was =
    let other : was.0 ≢ place = λ same.
    let free : slice_index old was.0 ≡ 0 = ap (slice_index old) same ∙ put.was_open in
    omega (arith, was.1.here) in (
      was.0,
      record {
        here = put.others was.0 other ∙ was.1.here;
        after = was.1.after;
        met = λ q from before. elim (cases_eq q place) [
          | inl same ↦
              let e : slice_index new q ≡ slot = ap (slice_index new) same ∙ put.here in
              omega arith
          | inr apart ↦ rw (put.others q apart) (was.1.met q from before)
        ];
      },
    )

-- Where the search for a row ends.
module _ (width : ℕ) (numbers slots : List ℕ) (homes count : ℕ)
    (before : IsInterner width numbers slots homes count) where
  -- the row that a slot names
  pub named : (p : ℕ) → 0 < slice_index slots p →
      (i : ℕ) × (i < count) × (link_in (slice_index slots p) ≡ i + 1)
      × (slice_index slots p ≡ slot_of (tag_at width numbers i) i) × (i + 1 < 2 ^ 32)
      × ((i + 1) * width ≤ length numbers)
  named p used =
      let n = before.names p used in
      let below = n.1 in
      let all = before.few in
      let few : n.0 + 1 < 2 ^ 32 = omega arith in (
        n.0,
        n.1,
        ap link_in n.2 ∙ link_slot (tag_at width numbers n.0) n.0 few,
        n.2,
        few,
        rw before.whole (row_ends n.0 count width n.1),
      )

  pub place_found : (row : List ℕ) (place number : ℕ) → 0 < slice_index slots place →
      number + 1 ≡ link_in (slice_index slots place) →
      row_at width numbers (link_in (slice_index slots place) - 1) ≡ row →
      (number < count) × (row_at width numbers number ≡ row)
  place_found row place number used link here =
      let n = named place used in
      let below = n.1 in
      let linked = n.2 in
      let e : number ≡ link_in (slice_index slots place) - 1 = omega arith in
      (omega arith, ap (row_at width numbers) e ∙ here)

  pub place_absent : (row : List ℕ) (place : ℕ) → slice_index slots place ≡ 0 →
      home_of (tag_of row) homes ≤ place →
      ((p : ℕ) → home_of (tag_of row) homes ≤ p → p < place →
      row_at width numbers (link_in (slice_index slots p) - 1) ≢ row) →
      (i : ℕ) → i < count → row_at width numbers i ≢ row
  place_absent row place free after others i below same =
      let all = before.few in
      let few : i + 1 < 2 ^ 32 = omega arith in
      let slot = slot_of (tag_at width numbers i) i in
      let p = before.placed i below in
      let tag : tag_in slot ≡ tag_of row = tag_slot (tag_at width numbers i) i few ∙ ap tag_of same in
      let home : home_of (tag_in slot) homes ≡ home_of (tag_of row) homes = ap (λ t. home_of t homes) tag in
      let away = p.1.after in
      let from : home_of (tag_of row) homes ≤ p.0 = omega arith in
      let here = p.1.here in
      elim (cases_lt p.0 place) [
        | inl earlier ↦
            let linked : link_in (slice_index slots p.0) ≡ i + 1 = ap link_in here
            ∙ link_slot (tag_at width numbers i) i few in
            let link : link_in (slice_index slots p.0) - 1 ≡ i = omega arith in
            others p.0 from earlier (ap (row_at width numbers) link ∙ same)
        | inr later ↦
            let some = slot_some (tag_at width numbers i) i in
            elim (cases_eq p.0 place) [
              | inl e ↦
                  let none : slice_index slots p.0 ≡ 0 = ap (slice_index slots) e ∙ free in
                  omega arith
              | inr apart ↦
                  let high : place < p.0 = omega arith in
                  let far : home_of (tag_in slot) homes ≤ place = omega arith in
                  let met = p.1.met place far high in
                  omega arith
            ]
      ]

  -- the same of lists that are read for the slots and the numbers
  pub found_in : (row seen read : List ℕ) (place number : ℕ) → seen ≡ slots → read ≡ numbers →
      (0 < slice_index seen place → row_at width read (link_in (slice_index seen place) - 1) ≡ row) →
      (0 < slice_index seen place) × (number + 1 ≡ link_in (slice_index seen place)) →
      (number < count) × (row_at width numbers number ≡ row)
  found_in row seen read place number same_slots same_numbers here found =
      let used : 0 < slice_index slots place =
      subst (λ (xs : List ℕ). 0 < slice_index xs place) same_slots found.0 in
      let link : number + 1 ≡ link_in (slice_index slots place) =
      subst (λ (xs : List ℕ). number + 1 ≡ link_in (slice_index xs place)) same_slots found.1 in
      let is : row_at width numbers (link_in (slice_index slots place) - 1) ≡ row =
      subst (λ (ns : List ℕ). row_at width ns (link_in (slice_index slots place) - 1) ≡ row) same_numbers
      (subst (λ (xs : List ℕ). row_at width read (link_in (slice_index xs place) - 1) ≡ row) same_slots
      (here found.0)) in
      place_found row place number used link is

  pub absent_in : (row seen read : List ℕ) (home place : ℕ) → seen ≡ slots → read ≡ numbers →
      home ≡ home_of (tag_of row) homes → slice_index seen place ≡ 0 → home ≤ place →
      ((p : ℕ) → home ≤ p → p < place → row_at width read (link_in (slice_index seen p) - 1) ≢ row) →
      (i : ℕ) → i < count → row_at width numbers i ≢ row
  absent_in row seen read home place same_slots same_numbers home_is free after others =
      let free_here : slice_index slots place ≡ 0 =
      subst (λ (xs : List ℕ). slice_index xs place ≡ 0) same_slots free in
      let from : home_of (tag_of row) homes ≤ place = omega arith in
      place_absent row place free_here from (λ p late early.
      let begun : home ≤ p = omega arith in
      subst (λ (ns : List ℕ). row_at width ns (link_in (slice_index slots p) - 1) ≢ row) same_numbers
      (subst (λ (xs : List ℕ). row_at width read (link_in (slice_index xs p) - 1) ≢ row) same_slots
      (others p begun early)))

  pub link_some : (seen : List ℕ) (place : ℕ) → seen ≡ slots → 0 < slice_index seen place →
      0 < link_in (slice_index seen place)
  link_some seen place same used =
      let here : 0 < slice_index slots place = subst (λ (xs : List ℕ). 0 < slice_index xs place) same used in
      let n = named place here in
      let linked = n.2 in
      let some : 0 < link_in (slice_index slots place) = omega arith in
      subst (λ (xs : List ℕ). 0 < link_in (slice_index xs place)) (sym same) some

  -- the same rows in a table with the same slots
  pub interner_like : (after : List ℕ) → ((p : ℕ) → slice_index after p ≡ slice_index slots p) →
      length slots ≤ length after → IsInterner width numbers after homes count
  interner_like after same long = record {
    whole = before.whole;
    few = before.few;
    few_homes = before.few_homes;
    room = omega (arith, before.room);
    names = λ p used.
        let n = before.names p (rw (← same p) used) in (n.0, n.1, same p ∙ n.2);
    placed = λ i below.
        let was = before.placed i below in (
          was.0,
          record {
            here = same was.0 ∙ was.1.here;
            after = was.1.after;
            met = λ p from earlier. rw (same p) (was.1.met p from earlier);
          },
        );
    distinct = before.distinct;
  }

  -- the same rows in a table made anew
  pub interner_grown : (after : List ℕ) (more : ℕ) → more ≤ 2 ^ 32 → more ≤ length after →
      ((p : ℕ) → 0 < slice_index after p → (q : ℕ) × (slice_index after p ≡ slice_index slots q)) →
      ((q : ℕ) → 0 < slice_index slots q → HasPlace after more (slice_index slots q)) →
      IsInterner width numbers after more count
  interner_grown after more few room old placed = record {
    whole = before.whole;
    few = before.few;
    few_homes = few;
    room = room;
    names = λ p used.
        let o = old p used in
        let n = before.names o.0 (rw (← o.1) used) in
        (n.0, n.1, o.1 ∙ n.2);
    placed = λ i below.
        let was = before.placed i below in
        let some : 0 < slice_index slots was.0 = rw was.1.here (slot_some (tag_at width numbers i) i) in
        subst (λ (s : ℕ). HasPlace after more s) was.1.here (placed was.0 some);
    distinct = before.distinct;
  }

  -- an interner gets a row that was not there
  pub interner_more : (after row : List ℕ) (place : ℕ) → length row ≡ width → count + 1 < 2 ^ 32 →
      ((i : ℕ) → i < count → row_at width numbers i ≢ row) →
      IsPut slots after (slot_of (tag_of row) count) place → home_of (tag_of row) homes ≤ place →
      ((p : ℕ) → home_of (tag_of row) homes ≤ p → p < place → 0 < slice_index slots p) →
      IsInterner width (numbers ++ row) after homes (count + 1)
  interner_more after row place wide few absent put from met =
      let slot = slot_of (tag_of row) count in
      let last : row_at width (numbers ++ row) count ≡ row = row_at-last width numbers row count before.whole wide in
      let old : (i : ℕ) → i < count → row_at width (numbers ++ row) i ≡ row_at width numbers i =
      λ i below. row_at-append width numbers row i (rw before.whole (row_ends i count width below)) in
      let slot_last : slot_of (tag_at width (numbers ++ row) count) count ≡ slot =
      ap (λ (r : List ℕ). slot_of (tag_of r) count) last in
      let slot_old : (i : ℕ) → i < count → slot_of (tag_at width (numbers ++ row) i) i
      ≡ slot_of (tag_at width numbers i) i =
      λ i below. ap (λ (r : List ℕ). slot_of (tag_of r) i) (old i below) in
      let own : tag_in slot ≡ tag_of row = tag_slot (tag_of row) count few in
      let home : home_of (tag_in slot) homes ≡ home_of (tag_of row) homes = ap (λ t. home_of t homes) own in
      let some = slot_some (tag_of row) count in
      record {
        whole = length-append numbers row ∙ rw (row_begins count width, before.whole, wide) refl;
        few = few;
        few_homes = before.few_homes;
        room = omega (arith, before.room, put.long);
        names = λ p used. elim (cases_eq p place) [
          | inl same ↦ (count, omega arith, ap (slice_index after) same ∙ put.here ∙ sym slot_last)
          | inr apart ↦
              let e = put.others p apart in
              let n = before.names p (rw (← e) used) in
              let below = n.1 in
              (n.0, omega arith, e ∙ n.2 ∙ sym (slot_old n.0 n.1))
        ];
        placed = λ i below. elim (cases_lt i count) [
          | inl h ↦
              subst (λ (s : ℕ). HasPlace after homes s) (sym (slot_old i h))
              (put_keeps slots after homes slot place (slot_of (tag_at width numbers i) i) some put
              (slot_some (tag_at width numbers i) i) (before.placed i h))
          | inr h ↦
              let e : i ≡ count = omega arith in
              let there : HasPlace after homes slot = put_place slots after homes slot place put (omega arith)
              (λ p here earlier. met p (omega arith) earlier) in
              subst (λ (k : ℕ). HasPlace after homes (slot_of (tag_at width (numbers ++ row) k) k)) (sym e)
              (subst (λ (s : ℕ). HasPlace after homes s) (sym slot_last) there)
        ];
        distinct = λ i k first below.
            let first_old : i < count = omega arith in
            elim (cases_lt k count) [
              | inl h ↦ rw (old i first_old, old k h) (before.distinct i k first h)
              | inr h ↦ let e : k ≡ count = omega arith in rw (old i first_old, e, last) (absent i first_old)
            ];
      }

-- The first slots have their places in a new table, and no others are there.
pub record AreRegrown (slots new : List ℕ) (homes k : ℕ) : Type 0 where
  pub room : homes ≤ length new
  pub old : (p : ℕ) → 0 < slice_index new p → (q : ℕ) × (slice_index new p ≡ slice_index slots q)
  pub placed : (q : ℕ) → q < k → 0 < slice_index slots q → HasPlace new homes (slice_index slots q)

-- one slot more was put
pub regrown_put : (slots before new : List ℕ) (homes k place : ℕ) → AreRegrown slots before homes k →
    0 < slice_index slots k → home_of (tag_in (slice_index slots k)) homes ≤ place →
    ((p : ℕ) → home_of (tag_in (slice_index slots k)) homes ≤ p → p < place → 0 < slice_index before p) →
    IsPut before new (slice_index slots k) place → AreRegrown slots new homes (k + 1)
regrown_put slots before new homes k place h some after met put = record {
  room = omega (arith, h.room, put.long);
  old = λ p used. elim (cases_eq p place) [
    | inl same ↦ (k, ap (slice_index new) same ∙ put.here)
    | inr apart ↦
        let e = put.others p apart in
        let was = h.old p (rw (← e) used) in
        (was.0, e ∙ was.1)
  ];
  placed = λ q below used. elim (cases_lt q k) [
    | inl early ↦ put_keeps before new homes (slice_index slots k) place (slice_index slots q) some put used
        (h.placed q early used)
    | inr last ↦
        let e : q ≡ k = omega arith in
        subst (λ (j : ℕ). HasPlace new homes (slice_index slots j)) (sym e)
        (put_place before new homes (slice_index slots k) place put after met)
  ];
}

-- an open slot is left out
pub regrown_open : (slots new : List ℕ) (homes k : ℕ) → AreRegrown slots new homes k → slice_index slots k ≡ 0 →
    AreRegrown slots new homes (k + 1)
regrown_open slots new homes k h free = record {
  room = h.room;
  old = h.old;
  placed = λ q below used. elim (cases_lt q k) [
    | inl early ↦ h.placed q early used
    | inr last ↦
        let e : q ≡ k = omega arith in
        let none : slice_index slots q ≡ 0 = ap (slice_index slots) e ∙ free in
        absurd (omega arith)
  ];
}
