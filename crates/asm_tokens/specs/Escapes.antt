-- The escapes of strings and characters.
use Rattle.std.specs.Prelude.{ℕ, ◌+◌, ◌-◌, ◌==◌, nat_le, ◌&&◌, ◌||◌, if◌then◌else◌}
use Rattle.std.specs.Prelude.{List, length, take, drop, take_while, slice_index, Option, Some, None}
use Rattle.std.specs.Prelude.{option_map}
use Rattle.std.specs.Char.{is_digit}
use Rattle.std.specs.Str.Parse.{digits_value}
use Rattle.asm_tokens.specs.declared.escapes.Escape.{Escape}

-- the byte that a letter or a mark means after a backslash
unfoldable pub named_escape : ℕ → Option ℕ
named_escape b =
    if b == 0x62 then Some 8
    else if b == 0x66 then Some 12
    else if b == 0x6E then Some 10
    else if b == 0x72 then Some 13
    else if b == 0x74 then Some 9
    else if (b == 0x5C) || (b == 0x22) || (b == 0x27) then Some b
    else None

-- the digits of a base that a text begins with
abbrev pub digits_in : ℕ → List ℕ → List ℕ
digits_in base text = take_while (λ b. is_digit b base) text

-- an escape of a byte, where the number is one
abbrev pub escaped : ℕ → ℕ → Option Escape
escaped number length =
    if nat_le number 255 then Some (record { byte = number; length = length }) else None

-- the same of a number that was read with a limit
abbrev pub escaped_if_read : Option ℕ → ℕ → Option Escape
escaped_if_read (Some number) length = escaped number length
escaped_if_read None length = None

-- one to three octal digits
unfoldable pub octal_escape : List ℕ → Option Escape
octal_escape text = let digits = digits_in 8 (take 3 text) in
    if length digits == 0 then None else escaped (digits_value 8 digits) (length digits)

abbrev pub last_two : List ℕ → List ℕ
last_two digits = drop (length digits - 2) digits

-- hexadecimal digits after `x`, of which the last two count
unfoldable pub hexadecimal_escape : List ℕ → Option Escape
hexadecimal_escape text = let digits = digits_in 16 text in
    if length digits == 0 then None
    else escaped (digits_value 16 (last_two digits)) (length digits + 1)

-- the escape that a text begins with, after its backslash
unfoldable pub escape_of : List ℕ → Option Escape
escape_of text = let b = slice_index text 0 in
    if (b == 0x78) || (b == 0x58) then hexadecimal_escape (drop 1 text)
    else if nat_le 0x30 b && nat_le b 0x37 then octal_escape text
    else option_map (λ byte. record { byte = byte; length = 1 }) (named_escape b)
