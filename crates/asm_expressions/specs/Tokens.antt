-- Tokens of a file by their numbers, from 0 on. Behind the last there are ends of statements.
use Rattle.std.specs.Prelude.{ℕ, List, [], slice_get, Option, Some, None}
use Rattle.asm_tokens.specs.declared.fault.AsmFault.{AsmFault}
use Rattle.asm_tokens.specs.declared.fault.AsmFaultKind.{AsmFaultKind}
use Rattle.asm_tokens.specs.declared.place.Place.{Place}
use Rattle.asm_tokens.specs.declared.token.TokenKind.{TokenKind}
use Rattle.asm_tokens.specs.declared.token.TokenKind.TheVariants.{End}
use Rattle.asm_tokens.specs.Tokens.{TokenParts}

-- a token that is not there
abbrev pub nowhere : Place
nowhere = record { line = 0; column = 0 }

abbrev pub kind_or_end : Option TokenParts → TokenKind
kind_or_end (Some token) = token.kind
kind_or_end None = End

abbrev pub text_or_none : Option TokenParts → List ℕ
text_or_none (Some token) = token.text
text_or_none None = []

abbrev pub place_or_nowhere : Option TokenParts → Place
place_or_nowhere (Some token) = token.place
place_or_nowhere None = nowhere

unfoldable pub kind_at : List TokenParts → ℕ → TokenKind
kind_at tokens at = kind_or_end (slice_get tokens at)

unfoldable pub text_at : List TokenParts → ℕ → List ℕ
text_at tokens at = text_or_none (slice_get tokens at)

unfoldable pub place_at : List TokenParts → ℕ → Place
place_at tokens at = place_or_nowhere (slice_get tokens at)

-- a fault at a token
unfoldable pub fault_at : List TokenParts → AsmFaultKind → ℕ → AsmFault
fault_at tokens kind at = record { kind = kind; place = place_at tokens at }
