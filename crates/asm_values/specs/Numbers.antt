-- Operators on numbers of 64 bits: taken with their signs where that makes a difference, and modulo
-- 2^64 after each operator.
use Rattle.std.specs.Prelude.{ℕ, ◌+◌, ◌-◌, ◌*◌, ◌/◌, ◌%◌, ◌^◌, ◌==◌, nat_le, nat_lt, Bool, true}
use Rattle.std.specs.Prelude.{false, not, if◌then◌else◌, Option, Some, None}

abbrev pub is_negative : ℕ → Bool
is_negative n = nat_le (2 ^ 63) n

abbrev pub negated : ℕ → ℕ
negated n = (2 ^ 64 - n) % 2 ^ 64

-- a number without its sign, and with one
abbrev pub magnitude : ℕ → ℕ
magnitude n = if is_negative n then negated n else n

abbrev pub with_sign : Bool → ℕ → ℕ
with_sign negative n = if negative then negated n else n

-- modulo 2^64
abbrev pub sum : ℕ → ℕ → ℕ
sum a b = (a + b) % 2 ^ 64

abbrev pub difference : ℕ → ℕ → ℕ
difference a b = (a + (2 ^ 64 - b)) % 2 ^ 64

abbrev pub inverted : ℕ → ℕ
inverted n = 2 ^ 64 - 1 - n

abbrev pub differ : Bool → Bool → Bool
differ true b = not b
differ false b = b

-- towards 0
unfoldable pub quotient : ℕ → ℕ → Option ℕ
quotient a b =
    if magnitude b == 0 then None
    else Some (with_sign (differ (is_negative a) (is_negative b)) (magnitude a / magnitude b))

unfoldable pub remainder : ℕ → ℕ → Option ℕ
remainder a b =
    if magnitude b == 0 then None else Some (with_sign (is_negative a) (magnitude a % magnitude b))

-- by 0 to 63, to the right without the sign
abbrev pub shifted_left : ℕ → ℕ → Option ℕ
shifted_left a b = if nat_lt b 64 then Some ((a * 2 ^ b) % 2 ^ 64) else None

abbrev pub shifted_right : ℕ → ℕ → Option ℕ
shifted_right a b = if nat_lt b 64 then Some (a / 2 ^ b) else None
