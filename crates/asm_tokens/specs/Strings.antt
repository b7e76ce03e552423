-- Strings: where they end, and the bytes that they mean.
use Rattle.std.specs.Prelude.{ℕ, zero, suc, ◌+◌, ◌-◌, ◌<◌, ◌≤◌, ◌==◌, if◌then◌else◌, List, []}
use Rattle.std.specs.Prelude.{◌∷◌, length, take, drop, Option, Some, None}
use Rattle.asm_tokens.specs.declared.escapes.Escape.{Escape}
use Rattle.asm_tokens.specs.declared.strings.StringByte.{StringByte}
use Rattle.asm_tokens.specs.declared.strings.StringByte.TheVariants as bytes
use Rattle.asm_tokens.specs.declared.strings.StringEnd.{StringEnd}
use Rattle.asm_tokens.specs.declared.strings.StringEnd.TheVariants.{Closed, Bad, Open}
use Rattle.asm_tokens.specs.Bytes.{is_string_byte}
use Rattle.asm_tokens.specs.Escapes.{escape_of}

-- the same end after so many more bytes
abbrev pub further : ℕ → StringEnd → StringEnd
further more (Closed n) = Closed (more + n)
further more (Bad n) = Bad (more + n)
further more Open = Open

-- what a byte of a string is, with what comes after it
abbrev pub escape_byte : Option Escape → StringByte
escape_byte None = bytes.Bad
escape_byte (Some escape) = bytes.Inside escape.length

unfoldable pub string_byte : ℕ → List ℕ → StringByte
string_byte b after =
    if b == 0x22 then bytes.Quote
    else if b == 0x0A then bytes.Newline
    else if b == 0x5C then escape_byte (escape_of after)
    else if is_string_byte b then bytes.Inside 0
    else bytes.Bad

abbrev pub IsInside : ℕ → StringByte → Type 0
IsInside length (bytes.Inside more) = more ≤ length
IsInside length bytes.Quote = Unit {0}
IsInside length bytes.Newline = Unit {0}
IsInside length bytes.Bad = Unit {0}

-- how a string ends by one of its bytes
abbrev pub end_by : StringByte → (ℕ → StringEnd) → StringEnd
end_by (bytes.Inside more) next = further 1 (next more)
end_by bytes.Quote next = Closed 0
end_by bytes.Newline next = Open
end_by bytes.Bad next = Bad 0

-- How a string's text ends, where so many of its first bytes are of an escape that began before: at
-- its quote, at the first byte that can't be in it, or not on this line.
unfoldable pub string_end : ℕ → List ℕ → StringEnd
string_end skip [] = Open
string_end (suc skip) (b ∷ text) = further 1 (string_end skip text)
string_end zero (b ∷ text) = end_by (string_byte b text) (λ more. string_end more text)

-- where a string ends is in its text
abbrev pub WithinText : ℕ → StringEnd → Type 0
WithinText length (Closed n) = n < length
WithinText length (Bad n) = n < length
WithinText length Open = Unit {0}

-- the byte that a string's text begins with, or its escape
unfoldable pub meant_byte : ℕ → List ℕ → Option Escape
meant_byte b after =
    if b == 0x5C then escape_of after else Some (record { byte = b; length = 0 })

abbrev pub byte_then : Option Escape → (ℕ → List ℕ) → List ℕ
byte_then None next = []
byte_then (Some escape) next = escape.byte ∷ next escape.length

-- the bytes that a string's text means, where so many of its first bytes are of an escape that
-- began before
unfoldable pub string_bytes : ℕ → List ℕ → List ℕ
string_bytes skip [] = []
string_bytes (suc skip) (b ∷ text) = string_bytes skip text
string_bytes zero (b ∷ text) = byte_then (meant_byte b text) (λ more. string_bytes more text)

-- what is between the first byte of a text and its last
abbrev pub between_quotes : List ℕ → List ℕ
between_quotes text = take (length text - 2) (drop 1 text)

-- the bytes that a string means
unfoldable pub string_of : List ℕ → List ℕ
string_of text = string_bytes 0 (between_quotes text)
