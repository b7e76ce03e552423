-- One line after another, up to the first that is wrong.
use Rattle.std.proofs.Common.{◌≡◌, ℕ, ◌+◌, ◌≤◌, List, ◌∷◌, length, drop, Option, Some, None, Result, Ok, Err, refl, sym, ap, ◌∙◌}
use Rattle.std.proofs.Math.ListN.{drop_of_length-le}
use Rattle.asm_map_reader.specs.declared.fault.LineFault.{LineFault}
use Rattle.asm_map_reader.specs.declared.fault.LineFault.TheVariants.{NoMemory, Wrong}
use Rattle.asm_map_reader.specs.declared.draft.Counts.{Counts}
use Rattle.asm_map_reader.specs.Drafts.{Gives}
use Rattle.asm_map_reader.specs.Sources.{SourceParts}
use Rattle.asm_map_reader.specs.Reading.{DraftParts, FillsLine, fault_at, finished, lines_meaning, or_line, with_text}

module _ (counts : Counts) (number : ℕ) (draft : DraftParts) (line : List ℕ) (rest : List (List ℕ)) (whole : Result (List SourceParts) ℕ) where
  -- after a line that was taken the whole goes on from what it made
  pub after_line : (next : DraftParts) → with_text counts draft line ≡ Some next → lines_meaning counts number draft (line ∷ rest) ≡ whole
      → lines_meaning counts (number + 1) next rest ≡ whole
  unfolding lines_meaning
  after_line next is all = sym (ap (λ made. or_line number made (λ n. lines_meaning counts (number + 1) n rest)) is) ∙ all

  -- a line that is wrong is the whole's fault
  pub at_fault : (fault : LineFault) (left : DraftParts) → FillsLine (Err fault) left (with_text counts draft line)
      → lines_meaning counts number draft (line ∷ rest) ≡ whole → Gives (Err (fault_at number fault)) whole
  unfolding lines_meaning
  at_fault NoMemory left is all = tt
  at_fault Wrong left is all = sym all ∙ ap (λ made. or_line number made (λ n. lines_meaning counts (number + 1) n rest)) is

-- after the last line the whole is what the lines made
pub after_last : (counts : Counts) (lines : List (List ℕ)) (index number : ℕ) (draft : DraftParts) (whole : Result (List SourceParts) ℕ)
    → length lines ≤ index → lines_meaning counts number draft (drop index lines) ≡ whole → whole ≡ finished number draft
unfolding lines_meaning
after_last counts lines index number draft whole ended all = sym (rw (drop_of_length-le lines ended) at all)
