-- The numbers of the lines that have instructions, one line after another.
use Rattle.std.proofs.Common.{◌≡◌, ℕ, ◌+◌, ◌≤◌, Bool, true, false, if◌then◌else◌, List, [], ◌∷◌, ◌++◌, length, drop, append_assoc, append-nil, sym, ap, ◌∙◌}
use Rattle.std.proofs.Math.ListN.{drop_of_length-le}
use Rattle.cheri_model.specs.instructions.Names.{is_instruction}
use Rattle.grammar.specs.Tokens.{tokens_of, token_at}
use Rattle.listings.specs.LineNumbers.{instruction_lines_from}

one_more : (has : Bool) (old : List ℕ) (number : ℕ) (rest : List ℕ)
    → (old ++ (if has then number ∷ [] else [])) ++ rest ≡ old ++ (if has then number ∷ rest else rest)
one_more true old number rest = append_assoc old (number ∷ []) rest
one_more false old number rest = ap (λ l. l ++ rest) (append-nil old)

-- after a line the numbers so far, and those of the others, are still those of all
pub number_put : (old new all : List ℕ) (number : ℕ) (line : List ℕ) (rest : List (List ℕ))
    → new ≡ old ++ (if is_instruction (token_at (tokens_of line) 0) then number ∷ [] else [])
    → old ++ instruction_lines_from number (line ∷ rest) ≡ all
    → new ++ instruction_lines_from (number + 1) rest ≡ all
unfolding instruction_lines_from
number_put old new all number line rest put whole =
    ap (λ l. l ++ instruction_lines_from (number + 1) rest) put
    ∙ one_more (is_instruction (token_at (tokens_of line) 0)) old number (instruction_lines_from (number + 1) rest)
    ∙ whole

-- after the last line they are all
pub numbers_end : (old all : List ℕ) (number index : ℕ) (lines : List (List ℕ)) → length lines ≤ index
    → old ++ instruction_lines_from number (drop index lines) ≡ all → old ≡ all
unfolding instruction_lines_from
numbers_end old all number index lines ended whole =
    sym (append-nil old) ∙ (rw (drop_of_length-le lines ended) at whole)
