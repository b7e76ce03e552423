-- What bytes are by themselves.
use Rattle.std.specs.Prelude.{ℕ, ◌==◌, nat_le, Bool, not, ◌&&◌, ◌||◌, List, take_while}
use Rattle.std.specs.Char.{is_ascii_digit}

-- a space, a tab or a carriage return
unfoldable pub is_blank : ℕ → Bool
is_blank b = (b == 0x20) || (b == 0x09) || (b == 0x0D)

-- a letter, `_`, `.` or `$`
unfoldable pub is_name_start : ℕ → Bool
is_name_start b =
    (nat_le 0x41 b && nat_le b 0x5A) || (nat_le 0x61 b && nat_le b 0x7A)
    || (b == 0x5F) || (b == 0x2E) || (b == 0x24)

-- these and digits
unfoldable pub is_name_byte : ℕ → Bool
is_name_byte b = is_name_start b || is_ascii_digit b

-- a byte that may be in a string: a tab, and all from 0x20 on but 0x7F
unfoldable pub is_string_byte : ℕ → Bool
is_string_byte b = (b == 0x09) || (nat_le 0x20 b && not (b == 0x7F))

-- what is before the end of the line
abbrev pub rest_of_line : List ℕ → List ℕ
rest_of_line text = take_while (λ b. not (b == 0x0A)) text
