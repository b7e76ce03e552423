-- Texts of whole lines, by what reading them makes of a draft, whatever follows them.
use Rattle.std.proofs.Common.{◌≡◌, ℕ, suc, ◌+◌, ◌≤◌, ◌==◌, false, List, [], ◌∷◌, ◌++◌, length, Option, Ok, refl, ap, ◌∙◌, append_assoc, arith}
use Rattle.std.proofs.lemmas.Bool.Decides.{nat_tests}
use Rattle.grammar.specs.declared.directives.Directive.{Directive}
use Rattle.grammar.specs.Lines.{lines_of}
use Rattle.grammar.specs.Tokens.{token_at}
use Rattle.grammar.specs.Labels.{LabelParts, count_of, instruction_lines}
use Rattle.grammar.specs.Directives.{directive_of}
use Rattle.listings.specs.Statement.{tokens_meaning, line_from}
use Rattle.listings.specs.Draft.{DraftParts}
use Rattle.listings.specs.Meaning.{line_meaning, lines_meaning}
use Rattle.canonical.proofs.round_trip.Lines.{IsLine, tokens_of_line, plain_line, line_then}

-- Reading the text first leads from one draft to another, wherever targets up to `enough` are in range. At least
-- `count` of its lines are instruction lines.
pub record Reads (enough : ℕ) (text : List ℕ) (before after : DraftParts) (count : ℕ) : Type 0 where
  pub ends : ℕ → ℕ
  pub leads : (labels : LabelParts) → enough ≤ labels.instructions → (number : ℕ) (tail : List ℕ)
      → lines_meaning labels number before (lines_of (text ++ tail)) ≡ lines_meaning labels (ends number) after (lines_of tail)
  pub counts : (tail : List ℕ) → count + instruction_lines (lines_of tail) ≤ instruction_lines (lines_of (text ++ tail))

module _ (enough : ℕ) where
  pub reads_none : (draft : DraftParts) → Reads enough [] draft draft 0
  reads_none draft = record { ends = λ number. number; leads = λ labels h number tail. refl; counts = λ tail. omega arith }

  pub reads_both : (first second : List ℕ) (before between after : DraftParts) (m n : ℕ) → Reads enough first before between m → Reads enough second between after n
      → Reads enough (first ++ second) before after (m + n)
  reads_both first second before between after m n r s = record {
    ends = λ number. s.ends (r.ends number);
    leads = λ labels h number tail. ap (λ text. lines_meaning labels number before (lines_of text)) (append_assoc first second tail) ∙ r.leads labels h number (second ++ tail) ∙ s.leads labels h (r.ends number) tail;
    counts = λ tail. (let one = r.counts (second ++ tail) in let two = s.counts tail in rw append_assoc (omega (arith, one, two)));
  }

  line_reads : (labels : LabelParts) (number : ℕ) (before after : DraftParts) (line : List ℕ) (words : List (List ℕ)) → IsLine line words
      → tokens_meaning labels number before words ≡ Ok after → line_meaning labels number before line ≡ Ok after
  unfolding line_meaning
  line_reads labels number before after line words l e = rw (plain_line line words l, tokens_of_line line words l) e

  then_lines : (labels : LabelParts) (number : ℕ) (before after : DraftParts) (line : List ℕ) (lines : List (List ℕ)) → line_meaning labels number before line ≡ Ok after
      → lines_meaning labels number before (line ∷ lines) ≡ lines_meaning labels (number + 1) after lines
  unfolding lines_meaning
  then_lines labels number before after line lines e = rw e refl

  then_count : (line : List ℕ) (lines : List (List ℕ)) (words : List (List ℕ)) (count : ℕ) → IsLine line words → count ≤ count_of (token_at words 0)
      → count + instruction_lines lines ≤ instruction_lines (line ∷ lines)
  unfolding instruction_lines
  then_count line lines words count l h = rw (tokens_of_line line words l) (omega arith)

  -- one line
  pub reads_line : (line : List ℕ) (words : List (List ℕ)) (before after : DraftParts) (count : ℕ) → IsLine line words → count ≤ count_of (token_at words 0)
      → ((labels : LabelParts) → enough ≤ labels.instructions → (number : ℕ) → tokens_meaning labels number before words ≡ Ok after)
      → Reads enough (line ++ 0x0A ∷ []) before after count
  reads_line line words before after count l few meaning = record {
    ends = λ number. number + 1;
    leads = λ labels h number tail. ap (lines_meaning labels number before) (split tail) ∙ then_lines labels number before after line (lines_of tail) (line_reads labels number before after line words l (meaning labels h number));
    counts = λ tail. rw (split tail) (then_count line (lines_of tail) words count l few);
  }
    where
      split : (tail : List ℕ) → lines_of ((line ++ 0x0A ∷ []) ++ tail) ≡ line ∷ lines_of tail
      split tail = ap lines_of (append_assoc line (0x0A ∷ []) tail) ∙ line_then line tail words l

some_words : (n : ℕ) → (suc n == 0) ≡ false
some_words n = grind (arith, nat_tests)

-- a line of a directive, and one that begins with no directive
pub words_mean : (labels : LabelParts) (number : ℕ) (draft : DraftParts) (word : List ℕ) (words : List (List ℕ)) (directive : Option Directive) → directive_of word ≡ directive
    → tokens_meaning labels number draft (word ∷ words) ≡ line_from labels number draft directive (word ∷ words)
unfolding tokens_meaning token_at
words_mean labels number draft word words directive e = rw (some_words (length words), e) refl
