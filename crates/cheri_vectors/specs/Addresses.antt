-- The rows of addresses: for each exponent both sides of both edges of the window, the base and the
-- top.
use Rattle.std.specs.Prelude.{ℕ, ◌+◌, ◌-◌, ◌*◌, ◌/◌, ◌%◌, ◌^◌, ◌==◌, Bool, ◌&&◌, if◌then◌else◌}
use Rattle.std.specs.Prelude.{List, codes, slice_index}
use Rattle.cap_model.specs.words.RawBounds.{raw_base, raw_top}
use Rattle.cheri_vectors.specs.declared.addresses.TheConstants.{B_DIGITS}
use Rattle.cheri_vectors.specs.Texts.{hex, bit_of, ◌+++◌}
use Rattle.cheri_vectors.specs.Words.{upper_with}

-- whether the bounds are the same at both addresses
abbrev pub keeps_bounds : ℕ → ℕ → ℕ → Bool
keeps_bounds upper addr new =
    (raw_base upper new == raw_base upper addr) && (raw_top upper new == raw_top upper addr)

abbrev pub kept_row : ℕ → ℕ → ℕ → List ℕ
kept_row upper addr new =
    codes "address " +++ hex upper +++ codes " " +++ hex addr +++ codes " " +++ hex new
    +++ codes " "
    +++ hex (bit_of (keeps_bounds upper addr new)) +++ codes "\n"

abbrev pub exponent_at : ℕ → ℕ
exponent_at n = n / 24

abbrev pub b_at : ℕ → ℕ
b_at n = slice_index B_DIGITS (n / 6 % 4)

-- bounds that are 2^12 steps of 2^E long, at their base
abbrev pub window_upper : ℕ → ℕ
window_upper n = upper_with 1 (b_at n % 2 ^ 12 + exponent_at n / 8) (b_at n + exponent_at n % 8)

abbrev pub window_addr : ℕ → ℕ
window_addr n = b_at n * 2 ^ exponent_at n % 2 ^ 64

-- the window's first address: the base rounded down to 2^(E+11), less one such step
abbrev pub window_start : ℕ → ℕ
window_start n =
    (b_at n / 2 ^ 11 * 2 ^ 11 * 2 ^ exponent_at n + 2 ^ 64 - 2 ^ (exponent_at n + 11)) % 2 ^ 64

abbrev pub new_addr : ℕ → ℕ
new_addr n =
    let e = exponent_at n in
    if n % 6 == 0 then window_start n else if n % 6 == 1 then (window_start n + 2 ^ 64 - 1) % 2 ^ 64
    else if n % 6 == 2 then (window_start n + 2 ^ (e + 14)) % 2 ^ 64
    else if n % 6 == 3 then (window_start n + 2 ^ (e + 14) + 2 ^ 64 - 1) % 2 ^ 64
    else if n % 6 == 4 then window_addr n else (window_addr n + 2 ^ (e + 12)) % 2 ^ 64

abbrev pub address_row : ℕ → List ℕ
address_row n = kept_row (window_upper n) (window_addr n) (new_addr n)
