-- A row of numbers as one word of 64 bits: its first number, and behind it each other one as a digit of
-- so many bits.
use Rattle.std.specs.Prelude.{ℕ, zero, suc, ◌+◌, ◌-◌, ◌*◌, ◌/◌, ◌%◌, ◌^◌, nat_lt, ◌&&◌, if◌then◌else◌, List, [], ◌∷◌, ◌++◌, Option, Some, None, option_and_then}

-- the word with one more digit behind it, if both fit
unfoldable pub with_digit : ℕ → ℕ → ℕ → Option ℕ
with_digit bits word digit =
    if nat_lt digit (2 ^ bits) && nat_lt word (2 ^ (64 - bits)) then Some (word * 2 ^ bits + digit) else None

-- the word with one more digit behind it, of which the first bits are lost where it doesn't fit
abbrev pub wrapped : ℕ → ℕ → ℕ → ℕ
wrapped bits word digit = (word * 2 ^ bits % 2 ^ 64 + digit) % 2 ^ 64

-- the word with these digits behind it
unfoldable pub with_digits : ℕ → ℕ → List ℕ → Option ℕ
with_digits bits word [] = Some word
with_digits bits word (digit ∷ digits) =
    option_and_then (λ more. with_digits bits more digits) (with_digit bits word digit)

-- the word of a row
unfoldable pub packed : ℕ → List ℕ → Option ℕ
packed bits [] = None
packed bits (first ∷ digits) = with_digits bits first digits

-- the row of a word with so many digits behind the first number
unfoldable pub unpacked : ℕ → ℕ → ℕ → List ℕ
unpacked bits zero word = word % 2 ^ 32 ∷ []
unpacked bits (suc n) word = unpacked bits n (word / 2 ^ bits) ++ word % 2 ^ bits ∷ []
