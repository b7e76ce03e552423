-- The lines of a text, and what newlines separate.
use Rattle.std.proofs.Common.{◌≡◌, ℕ, ◌==◌, Bool, false, cond, List, [], ◌∷◌, ◌++◌, refl, ap, ◌∙◌}
use Rattle.std.specs.List.{onto_first, slice_split}
use Rattle.sample_merges.specs.Lines.{slice_lines}

abbrev is_newline : ℕ → Bool
is_newline b = b == 0x0A

lines-cons : (b : ℕ) (text : List ℕ) → slice_lines (b ∷ text) ≡ cond (is_newline b) ([] ∷ slice_lines text) (onto_first b (slice_lines text))
unfolding slice_lines
lines-cons b text = refl

pub lines_none : slice_lines [] ≡ []
unfolding slice_lines
lines_none = refl

-- with a newline at its end a text is what newlines separate
pub lines_ended : (text : List ℕ) → slice_lines (text ++ 10 ∷ []) ≡ slice_split (λ b. b == 0x0A) text
unfolding slice_lines
lines_ended [] = refl
lines_ended (b ∷ text) =
    lines-cons b (text ++ 10 ∷ []) ∙ ap (λ ls. cond (is_newline b) ([] ∷ ls) (onto_first b ls)) (lines_ended text)

-- so it is where no newline stands at its end
pub lines_open : (text : List ℕ) (last : ℕ) → is_newline last ≡ false → slice_lines (text ++ last ∷ []) ≡ slice_split (λ b. b == 0x0A) (text ++ last ∷ [])
unfolding slice_lines
lines_open [] last other = rw (lines-cons last [], other) refl
lines_open (b ∷ text) last other =
    lines-cons b (text ++ last ∷ []) ∙ ap (λ ls. cond (is_newline b) ([] ∷ ls) (onto_first b ls)) (lines_open text last other)
