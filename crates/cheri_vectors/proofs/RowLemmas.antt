-- Rows one after another.
use Rattle.std.proofs.Common.{◌≡◌, ℕ, ◌+◌, List, ◌++◌, refl, sym, ◌∙◌, add-one, append_assoc}
use Rattle.std.proofs.lemmas.List.{append-nil}
use Rattle.cheri_vectors.specs.Texts.{rows_below}

pub rows_none : (row : ℕ → List ℕ) (text : List ℕ) → text ≡ text ++ rows_below row 0
unfolding rows_below
rows_none row text = sym (append-nil text)

pub rows_more : (row : ℕ → List ℕ) (n : ℕ) → rows_below row (n + 1) ≡ rows_below row n ++ row n
unfolding rows_below
rows_more row n = rw add-one refl

-- the text after one more row
pub text_more : (row : ℕ → List ℕ) (n : ℕ) (first before after : List ℕ) → before ≡ first ++ rows_below row n → after ≡ before ++ row n →
    after ≡ first ++ rows_below row (n + 1)
text_more row n first before after now grown = grown ∙ rw now (append_assoc first (rows_below row n) (row n) ∙ rw rows_more refl)
