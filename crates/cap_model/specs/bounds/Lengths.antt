-- How a length fixes the encoding: its exponent and its alignment (CHERI Concentrate, "internal
-- exponents"; CHERI ISA v9, "capability encoding". The widths of T and B are this project's own
-- profile.)
use Rattle.std.specs.Prelude.{ℕ, ◌+◌, ◌^◌, nat_lt, if◌then◌else◌}
use Rattle.cap_model.specs.bounds.Numbers.{first_from}

-- The exponent of a length: the least E for which the length is below 2^(E+13). So it is 0 below
-- 2^13, and from there on the greatest E with 2^(E+12) at most the length.
unfoldable pub exponent : ℕ → ℕ
exponent len = first_from (λ e. nat_lt len (2 ^ (e + 13))) 64 0

-- the internal exponent bit IE of a length: 1 from 2^12 on
unfoldable pub internal_exponent : ℕ → ℕ
internal_exponent len = if nat_lt len (2 ^ 12) then 0 else 1

-- the alignment of a length: the bounds of a capability of this length are multiples of it
unfoldable pub alignment : ℕ → ℕ
alignment len = if nat_lt len (2 ^ 12) then 1 else 2 ^ (exponent len + 3)
