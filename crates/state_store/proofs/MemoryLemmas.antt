-- Writes that were looked up before.
use Rattle.std.proofs.Common.{◌≡◌, ◌≢◌, ℕ, ◌+◌, ◌<◌, List, [], ◌∷◌, ◌++◌, length, length-append, arith, ap, sym, ◌∙◌, subst, inl, inr}
use Rattle.std.specs.Prelude.{slice_get, slice_set, Some, Result, Ok, Err, IfOk, OnErr}
use Rattle.std.proofs.lemmas.Bool.{cases_lt}
use Rattle.std.proofs.lemmas.Option.{same_Some, slice_get_within}
use Rattle.interner.specs.Rows.{Rows, IsInterned}
use Rattle.state_store.specs.Numbered.{Extends}
use Rattle.state_store.specs.Memories.{IsWrite, AreWrites}
use Rattle.state_store.proofs.NumberedLemmas.{interned_extends}
use Rattle.state_store.proofs.ValueLemmas.{last_item, earlier_item}

-- what a write that is known leaves
pub write_left : (rows : List (List ℕ)) (writes : Rows) (after : List ℕ) → AreWrites rows writes after →
    (k before place value left : ℕ) → slice_get writes.rows k ≡ Some (before ∷ place ∷ value ∷ []) →
    slice_get after k ≡ Some left → (row : List ℕ) → slice_get rows before ≡ Some row →
    slice_get rows left ≡ Some (slice_set row place value)
write_left rows writes after h k before place value left at is row there =
    let w = h.are k before place value left at is in
    w.leaves ∙ ap (λ (r : List ℕ). Some (slice_set r place value)) (same_Some w.row row (sym w.from ∙ there))

-- rows were added
pub writes_kept : (rows rows' : List (List ℕ)) (writes : Rows) (after : List ℕ) → Extends rows rows' →
    AreWrites rows writes after → AreWrites rows' writes after
writes_kept rows rows' writes after kept h = record {
  width = h.width;
  as_many = h.as_many;
  are = λ k before place value left at is.
      let w = h.are k before place value left at is in
      record { row = w.row; from = kept before w.row w.from; leaves = kept left (slice_set w.row place value) w.leaves };
}

same_key : (a b c x y z : ℕ) → a ∷ b ∷ c ∷ [] ≡ x ∷ y ∷ z ∷ [] → (a ≡ x) × (b ≡ y) × (c ≡ z)
same_key a b c x y z e = (cc, cc, cc)

-- a write that was not known became the last one
pub writes_more : (rows : List (List ℕ)) (writes writes' : Rows) (after : List ℕ) (before place value left n : ℕ) →
    AreWrites rows writes after → IsWrite rows before place value left →
    ((i : ℕ) → slice_get writes.rows i ≢ Some (before ∷ place ∷ value ∷ [])) →
    IsInterned writes writes' (before ∷ place ∷ value ∷ []) n →
    AreWrites rows writes' (after ++ left ∷ [])
writes_more rows writes writes' after before place value left n h write absent interned = elim interned.1 [
  | inl same ↦ absurd (absent n (ap (λ (t : Rows). slice_get t.rows n) (sym same) ∙ interned.0))
  | inr added ↦
      let key : List ℕ = before ∷ place ∷ value ∷ [] in
      let rows_are : writes'.rows ≡ writes.rows ++ key ∷ [] = ap (λ (t : Rows). t.rows) added.0 in
      let count : length (after ++ left ∷ []) ≡ length after + 1 = length-append after (left ∷ []) in
      record {
        width = ap (λ (t : Rows). t.width) added.0 ∙ h.width;
        as_many = length-append after (left ∷ []) ∙ (ap (λ (k : ℕ). k + 1) h.as_many
            ∙ (sym (length-append writes.rows (key ∷ [])) ∙ ap (λ (l : List (List ℕ)). length l) (sym rows_are)));
        are = λ k b p v l at is.
            let there : slice_get (writes.rows ++ key ∷ []) k ≡ Some (b ∷ p ∷ v ∷ []) =
            ap (λ (rs : List (List ℕ)). slice_get rs k) (sym rows_are) ∙ at in
            let within : k < length (after ++ left ∷ []) = slice_get_within (after ++ left ∷ []) k l is in
            elim (cases_lt k (length after)) [
              | inl low ↦
                  let low_key : k < length writes.rows = omega (arith, h.as_many) in
                  h.are k b p v l (earlier_item writes.rows key k (b ∷ p ∷ v ∷ []) low_key there)
                  (earlier_item after left k l low is)
              | inr high ↦
                  let last : k ≡ length after = omega arith in
                  let last_key : k ≡ length writes.rows = last ∙ h.as_many in
                  let same : key ≡ b ∷ p ∷ v ∷ [] = same_Some key (b ∷ p ∷ v ∷ []) (sym (last_item writes.rows key)
                  ∙ (ap (slice_get (writes.rows ++ key ∷ [])) (sym last_key) ∙ there)) in
                  let left_is : left ≡ l = same_Some left l (sym (last_item after left)
                  ∙ (ap (slice_get (after ++ left ∷ [])) (sym last) ∙ is)) in
                  let parts = same_key before place value b p v same in
                  subst (λ (m : ℕ). IsWrite rows b p v m) left_is
                  (subst (λ (m : ℕ). IsWrite rows b p m left) parts.2
                  (subst (λ (m : ℕ). IsWrite rows b m value left) parts.1
                  (subst (λ (m : ℕ). IsWrite rows m place value left) parts.0 write)))
            ];
      }
]

-- a row that was interned, or refused
pub rows_extend : {E : Type 0} (old new : Rows) (row : List ℕ) (result : Result ℕ E) →
    IfOk result (λ n. IsInterned old new row n) → OnErr result (new ≡ old) → Extends old.rows new.rows
rows_extend {E} old new row (Ok n) interned refused = interned_extends old new row n interned
rows_extend {E} old new row (Err e) interned refused =
    λ i x is. ap (λ (t : Rows). slice_get t.rows i) refused ∙ is
