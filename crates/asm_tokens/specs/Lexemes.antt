-- What a text begins with: a token, or what is between tokens.
use Rattle.std.specs.Prelude.{ℕ, ◌+◌, ◌-◌, ◌≤◌, ◌==◌, nat_le, Bool, ◌&&◌, ◌||◌}
use Rattle.std.specs.Prelude.{if◌then◌else◌}
use Rattle.std.specs.Prelude.{List, [], ◌∷◌, length, drop, take_while, slice_index}
use Rattle.std.specs.Prelude.{Option, Some, None, option_map}
use Rattle.std.specs.Char.{is_ascii_digit}
use Rattle.asm_tokens.specs.declared.escapes.Escape.{Escape}
use Rattle.asm_tokens.specs.declared.strings.StringEnd.{StringEnd}
use Rattle.asm_tokens.specs.declared.strings.StringEnd.TheVariants as ends
use Rattle.asm_tokens.specs.declared.token.Mark.{Mark}
use Rattle.asm_tokens.specs.declared.token.Mark.TheVariants as marks
use Rattle.asm_tokens.specs.declared.token.TokenKind.{TokenKind}
use Rattle.asm_tokens.specs.declared.token.TokenKind.TheVariants as kinds
use Rattle.asm_tokens.specs.declared.lexemes.Lexeme.{Lexeme}
use Rattle.asm_tokens.specs.declared.lexemes.Lexeme.TheVariants.{Blank, Token, Bad}
use Rattle.asm_tokens.specs.Bytes.{is_blank, is_name_start, is_name_byte, rest_of_line}
use Rattle.asm_tokens.specs.Escapes.{escape_of}
use Rattle.asm_tokens.specs.Strings.{string_end}
use Rattle.asm_tokens.specs.Numbers.{number_kind}

-- the mark of one byte
abbrev pub mark_of : ℕ → Option Mark
mark_of b =
    if b == 0x2C then Some marks.Comma
    else if b == 0x28 then Some marks.Open
    else if b == 0x29 then Some marks.Close
    else if b == 0x2B then Some marks.Plus
    else if b == 0x2D then Some marks.Minus
    else if b == 0x2A then Some marks.Star
    else if b == 0x2F then Some marks.Slash
    else if b == 0x25 then Some marks.Percent
    else if b == 0x26 then Some marks.And
    else if b == 0x7C then Some marks.Or
    else if b == 0x5E then Some marks.Caret
    else if b == 0x21 then Some marks.Bang
    else if b == 0x7E then Some marks.Tilde
    else if b == 0x3A then Some marks.Colon
    else if b == 0x3D then Some marks.Equals
    else if b == 0x40 then Some marks.At
    else None

-- a text that begins with this byte
abbrev pub begins : ℕ → List ℕ → Bool
begins b text = nat_le 1 (length text) && (slice_index text 0 == b)

abbrev pub one_mark : Option Mark → Lexeme
one_mark (Some mark) = Token (kinds.Mark mark) 0
one_mark None = Bad 0

-- a mark: the longer one
unfoldable pub mark_lexeme : ℕ → List ℕ → Lexeme
mark_lexeme b after =
    if (b == 0x3C) && begins b after then Token (kinds.Mark marks.ShiftLeft) 1
    else if (b == 0x3E) && begins b after then Token (kinds.Mark marks.ShiftRight) 1
    else one_mark (mark_of b)

abbrev pub ends_comment : List ℕ → Bool
ends_comment text =
    nat_le 2 (length text) && (slice_index text 0 == 0x2A) && (slice_index text 1 == 0x2F)

-- where the first `*/` is
unfoldable pub comment_end : List ℕ → Option ℕ
comment_end [] = None
comment_end (b ∷ text) =
    if ends_comment (b ∷ text) then Some 0 else option_map (λ n. n + 1) (comment_end text)

abbrev pub ended_comment : Option ℕ → Lexeme
ended_comment (Some end) = Blank (end + 3)
ended_comment None = Bad 0

-- what begins with `/`
unfoldable pub slash_lexeme : List ℕ → Lexeme
slash_lexeme after =
    if begins 0x2F after then Blank (length (rest_of_line after))
    else if begins 0x2A after then ended_comment (comment_end (drop 1 after))
    else Token (kinds.Mark marks.Slash) 0

-- what begins with `#`: a request where the line is blank before it, else a comment
unfoldable pub hash_lexeme : Bool → List ℕ → Lexeme
hash_lexeme opens after =
    if opens && begins 0x40 after then Token kinds.Request (length (rest_of_line after))
    else Blank (length (rest_of_line after))

abbrev pub number_token : Option TokenKind → ℕ → Lexeme
number_token (Some kind) more = Token kind more
number_token None more = Bad 0

-- what begins with a digit, which is as long as a name would be
unfoldable pub number_lexeme : List ℕ → Lexeme
number_lexeme text = let word = take_while is_name_byte text in
    number_token (number_kind word) (length word - 1)

-- a character, where a quote is at this place after the first
abbrev pub closed_character : ℕ → ℕ → List ℕ → Lexeme
closed_character byte place after =
    if slice_index after place == 0x27 then Token (kinds.Number (Some byte)) (place + 1) else Bad 0

abbrev pub escaped_character : Option Escape → List ℕ → Lexeme
escaped_character (Some escape) after = closed_character escape.byte (escape.length + 1) after
escaped_character None after = Bad 1

-- what begins with a quote: a character, whose number is its byte
unfoldable pub character_lexeme : List ℕ → Lexeme
character_lexeme after = let b = slice_index after 0 in
    if b == 0x5C then escaped_character (escape_of (drop 1 after)) after
    else if nat_le 0x20 b && nat_le b 0x7E then closed_character b 1 after
    else Bad 0

-- what begins with a double quote: a string
abbrev pub string_by : StringEnd → Lexeme
string_by (ends.Closed n) = Token kinds.String (n + 1)
string_by (ends.Bad n) = Bad (n + 1)
string_by ends.Open = Bad 0

unfoldable pub string_lexeme : List ℕ → Lexeme
string_lexeme after = string_by (string_end 0 after)

-- what begins with another byte: blanks, a name or a mark
unfoldable pub other_lexeme : ℕ → List ℕ → Lexeme
other_lexeme b after =
    if is_blank b then Blank (length (take_while is_blank after))
    else if is_name_start b then Token kinds.Name (length (take_while is_name_byte after))
    else mark_lexeme b after

-- what begins with a byte, which is the first of a text: so many bytes come after it
unfoldable pub lexeme_by : Bool → ℕ → List ℕ → List ℕ → Lexeme
lexeme_by opens b text after =
    if (b == 0x0A) || (b == 0x3B) then Token kinds.End 0
    else if b == 0x23 then hash_lexeme opens after
    else if b == 0x2F then slash_lexeme after
    else if b == 0x27 then character_lexeme after
    else if b == 0x22 then string_lexeme after
    else if is_ascii_digit b then number_lexeme text
    else other_lexeme b after

-- What a text begins with, of which `opens` says that its line has only blanks before it.
abbrev pub lexeme_of : Bool → List ℕ → Lexeme
lexeme_of opens text = lexeme_by opens (slice_index text 0) text (drop 1 text)

-- what begins so is in the text, of which so many bytes are after the first
abbrev pub Within : ℕ → Lexeme → Type 0
Within length (Blank more) = more ≤ length
Within length (Token kind more) = more ≤ length
Within length (Bad more) = more ≤ length
