-- The window, or representable region: the addresses that a capability can take without losing its
-- bounds (CHERI Concentrate, "representable region"; CHERI ISA v9, "capability encoding").
use Rattle.std.specs.Prelude.{ℕ, ◌+◌, ◌-◌, ◌%◌, ◌^◌, ◌<◌, nat_lt, nat_le, Bool, ◌||◌}
use Rattle.cap_model.specs.bounds.Numbers.{round_down}
use Rattle.cap_model.specs.bounds.Lengths.{exponent}

-- The window of exponent e begins at R, one step of 2^(e+11) below the base rounded down to such a
-- step. This is the distance of an address from R, going round at 2^64.
abbrev pub window_offset : ℕ → ℕ → ℕ → ℕ
window_offset e base a = (a + 2 ^ 64 + 2 ^ (e + 11) - round_down (2 ^ (e + 11)) base) % 2 ^ 64

-- An address is in the window of a capability with this base and this length: the window has
-- 2^(E+14) addresses, and from exponent 50 on it is the whole address space.
unfoldable pub IsInWindow : ℕ → ℕ → ℕ → Type 0
IsInWindow base len a =
    exponent len < 50 → window_offset (exponent len) base a < 2 ^ (exponent len + 14)

-- the same as a test
unfoldable pub is_in_window : ℕ → ℕ → ℕ → Bool
is_in_window base len a =
    nat_le 50 (exponent len)
    || nat_lt (window_offset (exponent len) base a) (2 ^ (exponent len + 14))
