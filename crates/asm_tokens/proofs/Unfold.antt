-- Names for `unfolding(..)` that open what their own line names.
use Rattle.std.specs.Prelude.{ℕ, Bool, List, Option}
use Rattle.asm_tokens.specs.declared.escapes.Escape.{Escape}
use Rattle.asm_tokens.specs.declared.lexemes.Lexeme.{Lexeme}
use Rattle.asm_tokens.specs.Bytes.{is_blank, is_name_start, is_name_byte, is_string_byte}
use Rattle.asm_tokens.specs.Escapes.{named_escape, octal_escape, hexadecimal_escape, escape_of}
use Rattle.asm_tokens.specs.Lexemes.{mark_lexeme, slash_lexeme, hash_lexeme, number_lexeme}
use Rattle.asm_tokens.specs.Lexemes.{character_lexeme, string_lexeme, other_lexeme, lexeme_by, lexeme_of}
use Rattle.asm_tokens.specs.Numbers.{written_number, is_local, number_kind}

unfoldable pub classes : ℕ → Bool
unfolding is_blank is_name_start is_name_byte is_string_byte
classes b = is_blank b

unfoldable pub escapes : List ℕ → Option Escape
unfolding named_escape octal_escape hexadecimal_escape escape_of
escapes text = escape_of text

unfoldable pub lexemes : Bool → List ℕ → Lexeme
unfolding mark_lexeme slash_lexeme hash_lexeme number_lexeme character_lexeme string_lexeme other_lexeme lexeme_by
lexemes opens text = lexeme_of opens text

unfoldable pub numbers : ℕ
unfolding written_number is_local number_kind
numbers = 0
