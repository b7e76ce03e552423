-- The words of a request, which blanks part, each with its column.
use Rattle.std.specs.Prelude.{ℕ, zero, suc, ◌+◌, ◌-◌, if◌then◌else◌, List, [], ◌∷◌, length}
use Rattle.std.specs.List.{before_first}
use Rattle.asm_tokens.specs.Bytes.{is_blank}
use Rattle.asm_requests.specs.declared.words.Word.{Word}

pub record WordParts : Type 0 where
  pub text : List ℕ
  pub column : ℕ

abbrev pub word_parts : Word → WordParts
word_parts word = record { text = word.text.now; column = word.column }

-- a text up to its first blank, as a word that begins at a column
abbrev pub word_at : ℕ → List ℕ → WordParts
word_at column text = record { text = before_first is_blank text; column = column }

-- The words from a column on, where so many bytes are of one that began before.
unfoldable pub words_from : ℕ → ℕ → List ℕ → List WordParts
words_from skip column [] = []
words_from (suc skip) column (b ∷ text) = words_from skip (column + 1) text
words_from zero column (b ∷ text) =
    if is_blank b then words_from 0 (column + 1) text
    else word_at column (b ∷ text)
    ∷ words_from (length (before_first is_blank text)) (column + 1) text

abbrev pub words_of : ℕ → List ℕ → List WordParts
words_of column text = words_from 0 column text
