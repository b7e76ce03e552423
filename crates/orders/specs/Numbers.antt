-- The numbers of a sweep: decimal digits, or `0x` and hexadecimal digits of either case (this
-- project's own format).
use Rattle.std.specs.Prelude.{ℕ, ◌+◌, ◌==◌, nat_lt, Bool, ◌&&◌, if◌then◌else◌, List, length, drop}
use Rattle.std.specs.Prelude.{slice_index, Result, Ok, Err}
use Rattle.std.specs.List.{take_while}
use Rattle.std.specs.Char.{is_digit}
use Rattle.std.specs.Str.Parse.{digits_value}
use Rattle.text_numbers.specs.Numerals.{begins_hexadecimal}
use Rattle.orders.specs.declared.fault.OrderFault.{OrderFault}
use Rattle.orders.specs.Faults.{byte_fault}

-- The number that a text begins with: its base and prefix, its digits, which are as many as there
-- are, and its value.
abbrev pub base_of : List ℕ → ℕ
base_of text = if begins_hexadecimal text then 16 else 10

abbrev pub prefix_bytes : List ℕ → ℕ
prefix_bytes text = if begins_hexadecimal text then 2 else 0

abbrev pub digits_of : List ℕ → List ℕ
digits_of text = take_while (λ b. is_digit b (base_of text)) (drop (prefix_bytes text) text)

unfoldable pub number_of : List ℕ → ℕ
number_of text = digits_value (base_of text) (digits_of text)

-- whether a text has this byte at a place
abbrev pub has_byte : ℕ → List ℕ → ℕ → Bool
has_byte b text place = nat_lt place (length text) && (slice_index text place == b)

-- Where the number from a place on ends, which this byte has to close: the byte's place. The fault
-- is at the first byte that neither goes on with the number nor, after a digit, closes it.
abbrev pub digits_end : List ℕ → ℕ → ℕ
digits_end text place =
    place + prefix_bytes (drop place text) + length (digits_of (drop place text))

unfoldable pub number_end : ℕ → List ℕ → ℕ → Result ℕ OrderFault
number_end closer text place =
    if nat_lt 0 (length (digits_of (drop place text)))
    && has_byte closer text (digits_end text place)
    then Ok (digits_end text place)
    else Err (byte_fault (digits_end text place))
