-- The lines of a listing, and what stands for a faulty one.
use Rattle.std.specs.Prelude.{ℕ, ◌-◌, ◌==◌, Bool, if◌then◌else◌, List, [], ◌∷◌, drop}
use Rattle.std.specs.Prelude.{set, codes, slice_index_or}
use Rattle.std.specs.List.{flat_map}
use Rattle.cheri_model.specs.instructions.Names.{is_instruction}
use Rattle.grammar.specs.Labels.{is_label_token}
use Rattle.grammar.specs.Tokens.{tokens_of, token_at}

-- the text of lines: newlines separate them
unfoldable pub text_of : List (List ℕ) → List ℕ
text_of lines = drop 1 (flat_map (λ line. 0x0A ∷ line) lines)

-- What stands for a faulty line is what other lines count of it: an instruction where it begins
-- with the name of one, or the label that it defines.
abbrev pub stand_in_of : List ℕ → List ℕ
stand_in_of token =
    if is_instruction token then codes "ecall"
    else if is_label_token token then token
    else []

unfoldable pub stand_in : List ℕ → List ℕ
stand_in line = stand_in_of (token_at (tokens_of line) 0)

-- where the line was told already, its stand-in is what is faulty
abbrev pub left_of : List ℕ → Bool → List ℕ
left_of line is_told = if is_told then [] else stand_in line

-- the lines without the one of this number, from 1 on; `last` is that of the last one told
unfoldable pub without : ℕ → ℕ → List (List ℕ) → List (List ℕ)
without last number lines =
    set lines (number - 1) (left_of (slice_index_or lines (number - 1) []) (number == last))
