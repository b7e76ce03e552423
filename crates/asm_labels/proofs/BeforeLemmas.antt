-- The last label of one instruction more.
use Rattle.std.proofs.Common.{◌≡◌, ℕ, zero, suc, ◌+◌, ◌<◌, List, [], ◌∷◌, ◌++◌, length, Option, None, get_or, refl, sym, ap, ◌∙◌, arith, add-one, length-append, below_more}
use Rattle.asm_symbols.specs.Definitions.{DefinitionParts}
use Rattle.asm_places.specs.Places.{PlacesParts}
use Rattle.asm_labels.specs.declared.before.LabelBefore.{LabelBefore}
use Rattle.asm_labels.specs.Labels.{first_label}
use Rattle.asm_labels.specs.Before.{or_before, last_label}

pub last_next : (places : PlacesParts) (symbols : List DefinitionParts) (n : ℕ)
    → last_label places symbols (n + 1) ≡ or_before (first_label places n 0 symbols) n (last_label places symbols n)
unfolding last_label
last_next places symbols n = rw add-one refl

-- a list with one more item at its end
at_end : {X : Type 0} (xs : List X) (x d : X) → get_or (xs ++ x ∷ []) (length xs) d ≡ x
at_end [] x d = refl
at_end (y ∷ xs) x d = at_end xs x d

before_end : {X : Type 0} (xs : List X) (x d : X) (n : ℕ) → n < length xs → get_or (xs ++ x ∷ []) n d ≡ get_or xs n d
before_end [] x d n inside = absurd (omega arith)
before_end (y ∷ xs) x d zero inside = refl
before_end (y ∷ xs) x d (suc n) inside = before_end xs x d n (omega arith)

module _ (places : PlacesParts) (symbols : List DefinitionParts) (labels after : List (Option LabelBefore)) (count n : ℕ) (first : Option ℕ)
    (before now : Option LabelBefore) (long : length labels ≡ n) (first_is : first ≡ first_label places n 0 symbols)
    (before_is : before ≡ last_label places symbols n) (now_is : now ≡ or_before first n before) (put : after ≡ labels ++ now ∷ []) where
  pub longer : length after ≡ n + 1
  longer = ap length put ∙ length-append labels (now ∷ []) ∙ ap (λ k. k + 1) long

  pub next_label : now ≡ last_label places symbols (n + 1)
  next_label =
      now_is ∙ ap (λ o. or_before o n before) first_is ∙ ap (or_before (first_label places n 0 symbols) n) before_is ∙ sym (last_next places symbols n)

  last_there : get_or after n None ≡ last_label places symbols (n + 1)
  last_there =
      ap (λ xs. get_or xs n None) put ∙ ap (λ k. get_or (labels ++ now ∷ []) k None) (sym long) ∙ at_end labels now None ∙ next_label

  pub all_labels : ((k : ℕ) → k < n → get_or labels k None ≡ last_label places symbols (k + 1))
      → (k : ℕ) → k < n + 1 → get_or after k None ≡ last_label places symbols (k + 1)
  all_labels so_far =
      below_more _ _
      (λ k h. (let inside : k < length labels = omega arith in ap (λ xs. get_or xs k None) put ∙ before_end labels now None k inside ∙ so_far k h))
      last_there
