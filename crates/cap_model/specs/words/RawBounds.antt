-- The bounds of any 128-bit word, tagged or not (CHERI Concentrate, "decoding of bounds"; CHERI ISA
-- v9, "capability encoding"; the cap of the exponent and the last step are this project's own
-- profile for words that no instruction makes).
use Rattle.std.specs.Prelude.{ℕ, ◌+◌, ◌-◌, ◌*◌, ◌/◌, ◌%◌, ◌^◌, ◌&&◌, nat_lt, if◌then◌else◌}
use Rattle.cap_model.specs.bounds.Numbers.{congruent_below}
use Rattle.cap_model.specs.words.Fields.{word_exponent, word_b, word_t14}

-- R: B's top three bits less one, modulo 8, as a number of 14 bits. Addresses are looked at in
-- regions of 2^(E+14), each beginning R * 2^E above a multiple of that size.
unfoldable pub region_floor : ℕ → ℕ
region_floor b = (b / 2 ^ 11 + 7) % 8 * 2 ^ 11

-- Where the address's region begins: the greatest number at most the address that is congruent to R
-- * 2^E modulo 2^(E+14). It may lie below 0, so it is counted from -2^66, which is 0 modulo 2^64,
-- 2^65 and the region.
unfoldable pub region_start : ℕ → ℕ → ℕ → ℕ
region_start e b addr = congruent_below (2 ^ (e + 14)) (region_floor b * 2 ^ e) (addr + 2 ^ 66)

-- how far into its region the bound with these 14 digits lies
unfoldable pub region_offset : ℕ → ℕ → ℕ → ℕ
region_offset e b digits = (digits + 2 ^ 14 - region_floor b) % 2 ^ 14 * 2 ^ e

unfoldable pub raw_base : ℕ → ℕ → ℕ
raw_base upper addr =
    let e = word_exponent upper in
    let b = word_b upper in
    (region_start e b addr + region_offset e b b) % 2 ^ 64

-- the top before its last correction, a number of 65 bits
unfoldable pub uncorrected_top : ℕ → ℕ → ℕ
uncorrected_top upper addr =
    let e = word_exponent upper in
    let b = word_b upper in
    (region_start e b addr + region_offset e b (word_t14 upper)) % 2 ^ 65

-- how many steps of 2^63 a top of 65 bits lies above a base, modulo 4
abbrev pub halves_above : ℕ → ℕ → ℕ
halves_above base top = (top / 2 ^ 63 + 4 - base / 2 ^ 63) % 4

-- the other number of 65 bits that is equal to it modulo 2^64
abbrev pub other_top : ℕ → ℕ
other_top top = (top + 2 ^ 64) % 2 ^ 65

-- The last correction. Two tops are equal modulo 2^64: below E = 51 the right one lies 0 or 1 steps
-- of 2^63 above the base, and the wrong one 2 or 3.
unfoldable pub corrected_top : ℕ → ℕ → ℕ → ℕ
corrected_top e base top =
    if nat_lt e 51 && nat_lt 1 (halves_above base top) then other_top top else top

unfoldable pub raw_top : ℕ → ℕ → ℕ
raw_top upper addr =
    corrected_top (word_exponent upper) (raw_base upper addr) (uncorrected_top upper addr)
