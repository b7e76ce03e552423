-- Worked rows of the definitions, which compute.
use Rattle.std.proofs.Common.{◌≡◌, [], ◌∷◌, Some, None, Ok, Err, refl}
use Rattle.std.specs.Prelude.{codes}
use Rattle.text_numbers.specs.Numerals.{number_in}
use Rattle.asm_tokens.specs.declared.fault.AsmFaultKind.TheVariants.{Byte}
use Rattle.asm_tokens.specs.declared.token.TokenKind.TheVariants as kinds
use Rattle.asm_tokens.specs.Bytes.{is_blank, is_name_start, is_name_byte, is_string_byte}
use Rattle.asm_tokens.specs.Escapes.{named_escape, octal_escape, hexadecimal_escape, escape_of}
use Rattle.asm_tokens.specs.Strings.{string_byte, string_end, meant_byte, string_bytes, string_of}
use Rattle.asm_tokens.specs.Numbers.{written_number, is_local, number_kind}
use Rattle.asm_tokens.specs.Places.{place_after}
use Rattle.asm_tokens.specs.Lexemes.{comment_end, slash_lexeme, number_lexeme, string_lexeme, other_lexeme, lexeme_by}
use Rattle.asm_tokens.specs.Tokens.{tokens_from, tokens_of}

-- `\x141` is the byte 0x41, `\377` the greatest octal one, and `\400` is none
long_escape : escape_of (codes "x141'") ≡ Some (record { byte = 0x41; length = 4 })
unfolding escape_of hexadecimal_escape
long_escape = refl

greatest_octal : escape_of (codes "3777") ≡ Some (record { byte = 255; length = 3 })
unfolding escape_of octal_escape
greatest_octal = refl

too_great_octal : escape_of (codes "400") ≡ None
unfolding escape_of octal_escape
too_great_octal = refl

no_letter : escape_of (codes "q") ≡ None
unfolding escape_of named_escape
no_letter = refl

-- `0b` is a local label, `0b1` a number, and `08` neither
zero_before : number_kind (codes "0b") ≡ Some kinds.Local
unfolding number_kind written_number number_in is_local
zero_before = refl

binary : number_kind (codes "0b1") ≡ Some (kinds.Number (Some 1))
unfolding number_kind written_number number_in
binary = refl

octal : number_kind (codes "017") ≡ Some (kinds.Number (Some 15))
unfolding number_kind written_number number_in
octal = refl

no_octal : number_kind (codes "08") ≡ None
unfolding number_kind written_number number_in is_local
no_octal = refl

-- a quote, a backslash and a letter
meaning : string_of (codes "\"a\\n\\101\"") ≡ 0x61 ∷ 0x0A ∷ 0x41 ∷ []
unfolding string_of string_bytes meant_byte escape_of named_escape octal_escape
meaning = refl

-- `1b` after a comment over two lines, at its line and column
jump : tokens_of (codes "j/*\n*/1b") ≡ Ok (
    record { kind = kinds.Name; text = codes "j"; place = record { line = 1; column = 1 } }
    ∷ record { kind = kinds.Local; text = codes "1b"; place = record { line = 2; column = 3 } }
    ∷ record { kind = kinds.End; text = []; place = record { line = 2; column = 5 } } ∷ [])
unfolding tokens_of tokens_from lexeme_by other_lexeme is_blank is_name_start is_name_byte slash_lexeme comment_end number_lexeme number_kind written_number number_in is_local
jump = refl

-- a bad escape is told at its backslash
refused : tokens_of (codes " \"ab\\q\"") ≡ Err (record { kind = Byte; place = record { line = 1; column = 5 } })
unfolding tokens_of tokens_from lexeme_by other_lexeme is_blank string_lexeme string_end string_byte is_string_byte escape_of named_escape place_after
refused = refl
