-- Immediates: their ranges, and the two parts of a number of 32 bits, high(n) = (n + 2048) >> 12
-- and low(n) = n - 4096 * high(n).
use Rattle.std.specs.Prelude.{ℕ, ℤ, pos, negsuc, ◌+◌, ◌-◌, ◌/◌, ◌%◌, ◌^◌, nat_le, nat_lt, Bool}
use Rattle.std.specs.Prelude.{Option, Some, None, if◌then◌else◌}
use Rattle.std.specs.Int.{w64, cast_unsigned}
use Rattle.cheri_model.specs.declared.operands.TheConstants.{MAX_IMMEDIATE}

-- the bits of a number of 64 bits with a sign, in two's complement
abbrev pub bits_of : ℤ → ℕ
bits_of n = cast_unsigned w64 n

-- of a number's bits: low(n), which is what it is modulo 4096, from -2048 to 2047
abbrev pub signed_rest : ℕ → ℤ
signed_rest rest = if nat_lt rest 2048 then pos rest else negsuc (4095 - rest)

unfoldable pub low : ℕ → ℤ
low bits = signed_rest (bits % 4096)

-- of a number's bits: high(n) modulo 2^20
unfoldable pub high_bits : ℕ → ℕ
high_bits bits = (bits + 2048) / 4096 % 2 ^ 20

-- whether high(n) is a number of 20 bits with a sign
abbrev pub is_reachable : ℤ → Bool
is_reachable (pos n) = nat_lt n (2 ^ 31 - 2048)
is_reachable (negsuc n) = nat_lt n (2 ^ 31 + 2048)

-- the immediate of `lui` or `auipcc` for a number
unfoldable pub high_field : ℤ → Option ℕ
high_field n = if is_reachable n then Some (high_bits (bits_of n)) else None

-- an immediate of 12 bits with a sign
abbrev pub is_signed : ℤ → Bool
is_signed (pos n) = nat_le n MAX_IMMEDIATE
is_signed (negsuc n) = nat_le n MAX_IMMEDIATE

unfoldable pub signed : ℤ → Option ℤ
signed n = if is_signed n then Some n else None

-- a number from 0 to a limit
unfoldable pub up_to : ℕ → ℤ → Option ℕ
up_to most (pos n) = if nat_le n most then Some n else None
up_to most (negsuc n) = None
