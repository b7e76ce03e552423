-- Which lines of a listing have its instructions.
use Rattle.std.specs.Prelude.{ℕ, ◌+◌, if◌then◌else◌, List, [], ◌∷◌}
use Rattle.cheri_model.specs.instructions.Names.{is_instruction}
use Rattle.grammar.specs.Lines.{lines_of}
use Rattle.grammar.specs.Tokens.{tokens_of, token_at}

-- the numbers of the lines that begin with an instruction's name, of which the first line has this
-- number
unfoldable pub instruction_lines_from : ℕ → List (List ℕ) → List ℕ
instruction_lines_from number [] = []
instruction_lines_from number (line ∷ lines) =
    if is_instruction (token_at (tokens_of line) 0)
    then number ∷ instruction_lines_from (number + 1) lines
    else instruction_lines_from (number + 1) lines

-- the line of each instruction; lines count from 1
abbrev pub instruction_lines_of : List ℕ → List ℕ
instruction_lines_of text = instruction_lines_from 1 (lines_of text)
