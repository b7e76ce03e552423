-- The parts of a rounding, in the forms in which the code computes them.
use Rattle.std.proofs.Common.{◌≡◌, ℕ, ◌+◌, ◌-◌, ◌/◌, ◌%◌, ◌^◌, ◌<◌, ◌≤◌, bit_and, sym, ◌∙◌, arith}
use Rattle.std.proofs.lemmas.Nat.{and_mask}
use Rattle.cap_bounds.proofs.Digits.{exponent_by_zeros}
use Rattle.cap_model.specs.bounds.Numbers.{round_down, round_up}
use Rattle.cap_model.specs.bounds.Lengths.{exponent, internal_exponent}
use Rattle.cap_model.specs.bounds.Rounding.{rounding_exponent, rounded_base, rounded_top}
use Rattle.cap_model.specs.values.Capability.{b_field, t_field}
use Rattle.cap_model.proofs.Rounding.Exponents.{internal_exponent_small, internal_exponent_long}
use Rattle.cap_model.proofs.Rounding.Roundings.{rounding_holds, short_rounding, rounding_exponent_small, rounding_bits_long, rounded_base_is, rounded_top_is, rounded_base_small, rounded_top_small}
use Rattle.cap_model.proofs.Rounding.RoundedFields.{field_widths}
use Rattle.cap_model.proofs.Rounding.RoundingSteps.{rounding_exponent_same, rounding_exponent_next}

-- the fields of a length below 2^12 are the digits of the bounds
pub b_field_short : (base len : ℕ) → len < 2 ^ 12 → bit_and base 0x3fff ≡ b_field (internal_exponent len) (rounding_exponent base len) (rounded_base base len)
unfolding b_field
b_field_short base len small =
    let mask : bit_and base 0x3fff ≡ base % 2 ^ 14 = and_mask base 14 in
    rw (internal_exponent_small len small, rounding_exponent_small base len small, rounded_base_small base len small) (omega arith)

pub t_field_short : (base len : ℕ) → len < 2 ^ 12 → bit_and (base + len) 0xfff ≡ t_field (internal_exponent len) (rounding_exponent base len) (rounded_top base len)
unfolding t_field
t_field_short base len small =
    let mask : bit_and (base + len) 0xfff ≡ (base + len) % 2 ^ 12 = and_mask (base + len) 12 in
    rw (internal_exponent_small len small, rounding_exponent_small base len small, rounded_top_small base len small) (omega arith)

-- those of a longer one hold the exponent too
pub b_field_long : (base len e low : ℕ) → 2 ^ 12 ≤ len → e ≡ rounding_exponent base len → low ≡ rounded_base base len → bit_and (low / 2 ^ e) 0x3fff + e % 8 ≡ b_field (internal_exponent len) (rounding_exponent base len) (rounded_base base len)
unfolding b_field
b_field_long base len e low long same_e same_low =
    let mask : bit_and (low / 2 ^ e) 0x3fff ≡ low / 2 ^ e % 2 ^ 14 = and_mask (low / 2 ^ e) 14 in
    rw (← same_e, ← same_low, internal_exponent_long len long) (omega arith)

pub t_field_long : (base len e high : ℕ) → 2 ^ 12 ≤ len → e ≡ rounding_exponent base len → high ≡ rounded_top base len → bit_and (high / 2 ^ e) 0xfff + e / 8 ≡ t_field (internal_exponent len) (rounding_exponent base len) (rounded_top base len)
unfolding t_field
t_field_long base len e high long same_e same_high =
    let mask : bit_and (high / 2 ^ e) 0xfff ≡ high / 2 ^ e % 2 ^ 12 = and_mask (high / 2 ^ e) 12 in
    rw (← same_e, ← same_high, internal_exponent_long len long) (omega arith)

-- the exponent of the rounding from the range that is widened at the length's own
pub tight_exponent : (base len e low high : ℕ) → 2 ^ 12 ≤ len → len ≤ 2 ^ 64 → e ≡ exponent len → low ≡ round_down (2 ^ (e + 3)) base → high ≡ round_up (2 ^ (e + 3)) (base + len) → high - low < 2 ^ (e + 13) → e ≡ rounding_exponent base len
tight_exponent base len e low high long within same_e same_low same_high fits =
    same_e ∙ sym (rounding_exponent_same base len long within (rw (← same_e, ← same_low, ← same_high) fits))

pub next_exponent : (base len e low high : ℕ) → 2 ^ 12 ≤ len → len ≤ 2 ^ 64 → e ≡ exponent len → low ≡ round_down (2 ^ (e + 3)) base → high ≡ round_up (2 ^ (e + 3)) (base + len) → 2 ^ (e + 13) ≤ high - low → e + 1 ≡ rounding_exponent base len
next_exponent base len e low high long within same_e same_low same_high too_long =
    rw same_e (sym (rounding_exponent_next base len long within (rw (← same_e, ← same_low, ← same_high) too_long)))

-- the bounds of the rounding are the range that is widened at its exponent
pub widened_base : (base len e low : ℕ) → 2 ^ 12 ≤ len → e ≡ rounding_exponent base len → low ≡ round_down (2 ^ (e + 3)) base → low ≡ rounded_base base len
widened_base base len e low long same_e same_low =
    rw (rounded_base_is base len, rounding_bits_long base len long, ← same_e) same_low

pub widened_top : (base len e high : ℕ) → 2 ^ 12 ≤ len → e ≡ rounding_exponent base len → high ≡ round_up (2 ^ (e + 3)) (base + len) → high ≡ rounded_top base len
widened_top base len e high long same_e same_high =
    rw (rounded_top_is base len, rounding_bits_long base len long, ← same_e) same_high

-- the fields of a rounding
pub ruleset short_fields = (internal_exponent_small, b_field_short, t_field_short)

pub ruleset long_fields = (internal_exponent_long, b_field_long, t_field_long)

-- what is known of a rounding, and its fields
pub ruleset short_parts = (short_rounding, short_fields)

pub ruleset long_parts = (rounding_holds, long_fields)

pub ruleset rounded_parts = (rounding_holds, field_widths)

-- all of it, with a length's exponent
pub ruleset roundings = (exponent_by_zeros, short_parts, long_parts, rounded_parts)
