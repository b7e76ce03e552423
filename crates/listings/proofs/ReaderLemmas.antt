-- One line after another, up to the first fault.
use Rattle.std.proofs.Common.{◌≡◌, ℕ, ◌+◌, ◌≤◌, List, ◌∷◌, length, drop, Result, Ok, Err, refl, sym, ap, ◌∙◌, inl, inr}
use Rattle.std.proofs.Math.ListN.{drop_of_length-le}
use Rattle.listings.specs.declared.fault.LineFault.{LineFault}
use Rattle.listings.specs.declared.fault.LineFault.TheVariants.{NoMemory, Kind}
use Rattle.listings.specs.declared.fault.ListingFault.{ListingFault}
use Rattle.grammar.specs.Faults.{◌>>=◌}
use Rattle.listings.specs.Faults.{Gives, FillsLine, fault_at}
use Rattle.grammar.specs.Labels.{LabelParts}
use Rattle.listings.specs.Draft.{DraftParts}
use Rattle.listings.specs.Meaning.{line_meaning, lines_meaning, at_line}

module _ (labels : LabelParts) (number : ℕ) (draft : DraftParts) (line : List ℕ) (rest : List (List ℕ)) (whole : Result DraftParts ListingFault) where
  -- after a good line the whole goes on from what it made
  pub after_line : (next : DraftParts) → line_meaning labels number draft line ≡ Ok next → lines_meaning labels number draft (line ∷ rest) ≡ whole → lines_meaning labels (number + 1) next rest ≡ whole
  unfolding lines_meaning
  after_line next e h = sym (ap (λ (made : Result DraftParts _). at_line number made >>= (λ n. lines_meaning labels (number + 1) n rest)) e) ∙ h

  -- a faulty line is the whole's fault
  pub at_fault : (fault : LineFault) (left : DraftParts) → FillsLine (Err fault) left (line_meaning labels number draft line) → lines_meaning labels number draft (line ∷ rest) ≡ whole → Gives (Err (fault_at number fault)) whole
  unfolding lines_meaning
  at_fault NoMemory left e h = inl refl
  at_fault (Kind kind) left e h = inr (sym h ∙ ap (λ (made : Result DraftParts _). at_line number made >>= (λ n. lines_meaning labels (number + 1) n rest)) e)

-- after the last line the whole is what the lines made
pub after_last : (labels : LabelParts) (lines : List (List ℕ)) (index number : ℕ) (draft : DraftParts) (whole : Result DraftParts ListingFault) → length lines ≤ index → lines_meaning labels number draft (drop index lines) ≡ whole → whole ≡ Ok draft
unfolding lines_meaning
after_last labels lines index number draft whole h e = sym (rw (drop_of_length-le lines h) at e)
