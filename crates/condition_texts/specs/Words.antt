-- The words of a text, and where each begins.
use Rattle.std.specs.Prelude.{ℕ, ◌+◌, ◌==◌, nat_le, Bool, true, false, ◌||◌, if◌then◌else◌, List}
use Rattle.std.specs.Prelude.{[], ◌∷◌, ◌++◌, length, zero, suc}
use Rattle.std.specs.List.{slice_split}

-- words are separated by single bytes of one kind, and may be empty
abbrev pub words_of : ℕ → List ℕ → List (List ℕ)
words_of separator text = slice_split (λ b. b == separator) text

-- the byte at which the word of a number begins, both from 0 on; the text's length where it has no
-- such word
unfoldable pub word_start : ℕ → ℕ → List ℕ → ℕ
word_start separator number [] = 0
word_start separator zero (b ∷ rest) = 0
word_start separator (suc number) (b ∷ rest) =
    word_start separator (if b == separator then number else suc number) rest + 1

-- ( or )
abbrev pub is_parenthesis : ℕ → Bool
is_parenthesis b = (b == 0x28) || (b == 0x29)

-- the word of such bytes, which begins here; no bytes are a word where they may be
abbrev pub run_of : ℕ → List ℕ → Bool → List (ℕ × List ℕ)
run_of start bytes may_be_empty =
    if may_be_empty || nat_le 1 (length bytes) then (start, bytes) ∷ [] else []

-- The words of a condition, each with the byte where it begins, after such bytes of a word. Single
-- spaces separate pieces. In a piece each parenthesis is a word, and so is each longest run of
-- other bytes. A piece without bytes is an empty word.
unfoldable pub words_from : ℕ → List ℕ → Bool → List ℕ → List (ℕ × List ℕ)
words_from start bytes alone [] = run_of start bytes alone
words_from start bytes alone (b ∷ rest) =
    if b == 0x20
    then run_of start bytes alone ++ words_from (start + length bytes + 1) [] true rest
    else if is_parenthesis b
    then run_of start bytes false ++ (start + length bytes, b ∷ [])
    ∷ words_from (start + length bytes + 1) [] false rest
    else words_from start (bytes ++ b ∷ []) alone rest

unfoldable pub condition_words : List ℕ → List (ℕ × List ℕ)
condition_words text = words_from 0 [] true text
