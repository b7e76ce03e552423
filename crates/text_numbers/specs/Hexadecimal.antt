-- Numbers in hexadecimal, in lower case.
use Rattle.std.specs.Prelude.{ℕ, ◌/◌, ◌%◌, false, List, [], ◌∷◌, ◌++◌, codes, zero, suc}
use Rattle.std.specs.Char.{digit_char}
use Rattle.std.specs.Fmt.{digits}

-- a number's lowest hexadecimal digits, this many
unfoldable pub hex_text : ℕ → ℕ → List ℕ
hex_text zero n = []
hex_text (suc width) n = hex_text width (n / 16) ++ digit_char (n % 16) ∷ []

-- a number as short as it is: without leading zeros
abbrev pub number_text : ℕ → List ℕ
number_text n = codes "0x" ++ digits 16 false n
