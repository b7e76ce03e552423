-- The tokens of a file.
use Rattle.std.specs.Prelude.{ℕ, zero, suc, ◌+◌, ◌==◌, Bool, true, ◌&&◌, ◌||◌, List, [], ◌∷◌, ◌++◌}
use Rattle.std.specs.Prelude.{take, Result, Ok, Err}
use Rattle.asm_tokens.specs.declared.fault.AsmFault.{AsmFault}
use Rattle.asm_tokens.specs.declared.fault.AsmFaultKind.TheVariants.{Byte}
use Rattle.asm_tokens.specs.declared.place.Place.{Place}
use Rattle.asm_tokens.specs.declared.token.Token.{Token}
use Rattle.asm_tokens.specs.declared.token.TokenKind.{TokenKind}
use Rattle.asm_tokens.specs.declared.token.TokenKind.TheVariants.{End}
use Rattle.asm_tokens.specs.declared.lexemes.Lexeme.{Lexeme}
use Rattle.asm_tokens.specs.declared.lexemes.Lexeme.TheVariants as lexemes
use Rattle.asm_tokens.specs.Bytes.{is_blank}
use Rattle.asm_tokens.specs.Faults.{◌>>=◌}
use Rattle.asm_tokens.specs.Places.{start, after_byte, place_after}
use Rattle.asm_tokens.specs.Lexemes.{lexeme_of}

-- a token: what it is, its bytes, and where it begins
pub record TokenParts : Type 0 where
  pub kind : TokenKind
  pub text : List ℕ
  pub place : Place

abbrev pub token_parts : Token → TokenParts
token_parts token = record { kind = token.kind; text = token.text.now; place = token.place }

-- whether a line has only blanks up to the end of what begins with a byte
abbrev pub opens_after : Bool → ℕ → Bool
opens_after opens b = (b == 0x0A) || (opens && is_blank b)

-- tokens before others
abbrev pub with_front : List TokenParts → Result (List TokenParts) AsmFault
    → Result (List TokenParts) AsmFault
with_front front rest = rest >>= λ tokens. Ok (front ++ tokens)

-- what a text begins with, before the tokens of the rest
abbrev pub then_rest : Place → List ℕ → Lexeme → (ℕ → Result (List TokenParts) AsmFault)
    → Result (List TokenParts) AsmFault
then_rest place text (lexemes.Blank more) rest = rest more
then_rest place text (lexemes.Token kind more) rest =
    with_front (record { kind = kind; text = take (more + 1) text; place = place } ∷ []) (rest more)
then_rest place text (lexemes.Bad more) rest =
    Err (record { kind = Byte; place = place_after place (take more text) })

-- The tokens from a place on, where so many bytes are of something that began before, and `opens`
-- says whether the line has only blanks so far. The end of the file ends a statement.
unfoldable pub tokens_from : ℕ → Place → Bool → List ℕ → Result (List TokenParts) AsmFault
tokens_from skip place opens [] = Ok (record { kind = End; text = []; place = place } ∷ [])
tokens_from (suc skip) place opens (b ∷ text) = tokens_from skip (after_byte place b) opens text
tokens_from zero place opens (b ∷ text) =
    then_rest place (b ∷ text) (lexeme_of opens (b ∷ text))
    (λ more. tokens_from more (after_byte place b) (opens_after opens b) text)

unfoldable pub tokens_of : List ℕ → Result (List TokenParts) AsmFault
tokens_of text = tokens_from 0 start true text
