-- Words as rows of one number.
use Rattle.std.proofs.Common.{◌≡◌, ℕ, zero, suc, ◌+◌, ◌-◌, ◌*◌, ◌<◌, ◌≤◌, ◌^◌, List, [], ◌∷◌, length, arith, ap, sym, ◌∙◌, refl}
use Rattle.std.specs.Prelude.{slice_index, slice_get, Some, None}
use Rattle.interner.specs.Hashes.{tag_of}
use Rattle.interner.specs.Rows.{row_at, rows_of}
use Rattle.interner.specs.Slots.{slot_of, link_in, tag_in, tag_at}
use Rattle.interner.proofs.RowLemmas.{slice_get-rows_of, no_row}
use Rattle.interner.proofs.SlotLemmas.{link_slot, tag_slot}

-- a row of one number is the number there
pub row_of_one : (words : List ℕ) (i : ℕ) → i < length words → row_at 1 words i ≡ slice_index words i ∷ []
row_of_one [] i below = absurd (omega arith)
row_of_one (x ∷ xs) zero below = refl
row_of_one (x ∷ xs) (suc i) below =
    let e : suc i * 1 ≡ suc (i * 1) = omega arith in
    rw e (row_of_one xs i (omega arith))

-- where a slot that names word i says that it is
pub word_linked : (words : List ℕ) (slot i : ℕ) → i + 1 < 2 ^ 32 → slot ≡ slot_of (tag_at 1 words i) i →
    link_in slot ≡ i + 1
word_linked words slot i few is = ap link_in is ∙ link_slot (tag_at 1 words i) i few

-- a slot that names a word has its tag
pub word_tagged : (words row : List ℕ) (slot i : ℕ) → i + 1 < 2 ^ 32 → slot ≡ slot_of (tag_at 1 words i) i →
    row_at 1 words (link_in slot - 1) ≡ row → tag_in slot ≡ tag_of row
word_tagged words row slot i few is same =
    let link = word_linked words slot i few is in
    let e : link_in slot - 1 ≡ i = omega arith in
    ap tag_in is ∙ tag_slot (tag_at 1 words i) i few ∙ ap tag_of (ap (row_at 1 words) (sym e) ∙ same)

-- the row of the word that a slot names
pub word_there : (words : List ℕ) (link number word : ℕ) → number < length words → number + 1 ≡ link →
    slice_index words number ≡ word → row_at 1 words (link - 1) ≡ word ∷ []
word_there words link number word below is same =
    let e : link - 1 ≡ number = omega arith in
    ap (row_at 1 words) e ∙ row_of_one words number below ∙ ap (λ w. w ∷ []) same

-- the row of a word that is there
pub word_is : (words : List ℕ) (i : ℕ) → i < length words →
    slice_get (rows_of 1 words (length words)) i ≡ Some (slice_index words i ∷ [])
word_is words i below =
    slice_get-rows_of 1 words (length words) i below ∙ ap (λ row. Some row) (row_of_one words i below)

pub no_word : (words : List ℕ) (i : ℕ) → length words ≤ i → slice_get (rows_of 1 words (length words)) i ≡ None
no_word words i past = no_row 1 words (length words) i past
