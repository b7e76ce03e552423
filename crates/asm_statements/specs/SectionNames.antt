-- The names of sections: a string, or names, numbers and `-` with nothing between.
use Rattle.std.specs.Prelude.{ℕ, ◌+◌, ◌-◌, ◌==◌, Bool, true, false, ◌&&◌}
use Rattle.std.specs.Prelude.{if◌then◌else◌, List, [], ◌∷◌, ◌++◌, length, take, drop}
use Rattle.asm_tokens.specs.declared.token.Mark.TheVariants as marks
use Rattle.asm_tokens.specs.declared.token.TokenKind.{TokenKind}
use Rattle.asm_tokens.specs.declared.token.TokenKind.TheVariants as kinds
use Rattle.asm_tokens.specs.Strings.{string_of}
use Rattle.asm_tokens.specs.Tokens.{TokenParts}
use Rattle.asm_expressions.specs.Tokens.{text_at}
use Rattle.asm_statements.specs.Marks.{is_string, string_kind}

unfoldable pub is_part : TokenKind → Bool
is_part kinds.Name = true
is_part (kinds.Number n) = true
is_part (kinds.Mark marks.Minus) = true
is_part _ = false

-- a token that begins right where another one ends
unfoldable pub joins : TokenParts → TokenParts → Bool
joins before after =
    (before.place.line == after.place.line)
    && (after.place.column == before.place.column + length before.text)

abbrev pub goes_on : TokenParts → TokenParts → Bool
goes_on before after = is_part after.kind && joins before after

unfoldable pub parts_after : TokenParts → List TokenParts → ℕ
parts_after before [] = 0
parts_after before (token ∷ tokens) =
    if goes_on before token then 1 + parts_after token tokens else 0

-- how many tokens a name has with which tokens begin
unfoldable pub name_count : List TokenParts → ℕ
name_count [] = 0
name_count (token ∷ tokens) =
    if string_kind token.kind then 1
    else if is_part token.kind then 1 + parts_after token tokens
    else 0

-- the number of the token after a name
unfoldable pub name_end : List TokenParts → ℕ → ℕ
name_end tokens at = at + name_count (drop at tokens)

-- what tokens have together
unfoldable pub texts_of : List TokenParts → List ℕ
texts_of [] = []
texts_of (token ∷ tokens) = token.text ++ texts_of tokens

unfoldable pub texts_between : List TokenParts → ℕ → ℕ → List ℕ
texts_between tokens first end = texts_of (take (end - first) (drop first tokens))

-- the name that is the tokens from the first number on before the second
unfoldable pub section_name : List TokenParts → ℕ → ℕ → List ℕ
section_name tokens first end =
    if is_string tokens first then string_of (text_at tokens first)
    else texts_between tokens first end
