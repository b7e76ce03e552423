-- Rounding of a requested range to bounds that a capability can have (CHERI Concentrate, "encoding
-- of bounds"; CHERI ISA v9, CSetBounds).
use Rattle.std.specs.Prelude.{ℕ, ◌+◌, ◌-◌, ◌^◌, nat_lt, if◌then◌else◌}
use Rattle.cap_model.specs.bounds.Numbers.{round_down, round_up, first_from}

-- The exponent of the rounding of base and length: 0 below 2^12, else the least E for which the
-- range, made wider to multiples of 2^(E+3) at both ends, is shorter than 2^(E+13).
unfoldable pub rounding_exponent : ℕ → ℕ → ℕ
rounding_exponent base len =
    if nat_lt len (2 ^ 12) then 0
    else first_from
    (λ e.
    nat_lt (round_up (2 ^ (e + 3)) (base + len) - round_down (2 ^ (e + 3)) base) (2 ^ (e + 13)))
    64 0

-- what both ends are rounded to: nothing is rounded below 2^12
unfoldable pub rounding_alignment : ℕ → ℕ → ℕ
rounding_alignment base len =
    if nat_lt len (2 ^ 12) then 1 else 2 ^ (rounding_exponent base len + 3)

-- the base of the rounding: the requested one, rounded down
unfoldable pub rounded_base : ℕ → ℕ → ℕ
rounded_base base len = round_down (rounding_alignment base len) base

-- the top of the rounding: the requested one, rounded up
unfoldable pub rounded_top : ℕ → ℕ → ℕ
rounded_top base len = round_up (rounding_alignment base len) (base + len)
