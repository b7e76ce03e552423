-- The rounding of a requested range: how long it is at each exponent, at which exponent the search ends, and
-- what the rounded bounds are multiples of.
use Rattle.std.proofs.Common.{◌≡◌, ℕ, ◌+◌, ◌-◌, ◌*◌, ◌%◌, ◌^◌, ◌<◌, ◌≤◌, zero, suc, nat_lt, if◌then◌else◌, refl, sym, ◌∙◌, inl, inr, le_trans, lit<, lt-ltb, le-ltb, arith}
use Rattle.std.proofs.lemmas.Bool.{cases_lt}
use Rattle.std.proofs.lemmas.Nat.{pow_pos}
use Rattle.std.proofs.Math.Nat.{pow-le-pow_right}
use Rattle.cap_model.specs.bounds.Numbers.{round_down, round_up}
use Rattle.cap_model.specs.bounds.Lengths.{exponent, internal_exponent, alignment}
use Rattle.cap_model.specs.bounds.Rounding.{rounding_exponent, rounding_alignment, rounded_base, rounded_top}
use Rattle.cap_model.proofs.Rounding.Exponents.{least_fit, least_fit_least, least_fit_before, least_fit_fits, exponent_between, exponent_small, internal_exponent_small, internal_exponent_long, alignment_small, alignment_long}
use Rattle.cap_model.proofs.Rounding.Multiples.{round_down_at_most, round_up_at_least, round_down_near, round_up_near, round_down_coarser, round_up_coarser, round_down_multiple, round_up_multiple, round_up_least, multiple_of_lower_power}

-- the length of the range made wider to multiples of 2^(e+3)
abbrev pub widened_length : ℕ → ℕ → ℕ → ℕ
widened_length base len e = round_up (2 ^ (e + 3)) (base + len) - round_down (2 ^ (e + 3)) base

pub widened_length_above : (base len e : ℕ) → len ≤ widened_length base len e
widened_length_above base len e =
    omega (arith, round_down_at_most (2 ^ (e + 3)) base (pow_pos (e + 3)), round_up_at_least (2 ^ (e + 3)) (base + len) (pow_pos (e + 3)))

pub widened_length_near : (base len e : ℕ) → widened_length base len e < len + 2 * 2 ^ (e + 3)
widened_length_near base len e =
    omega (arith, round_down_near (2 ^ (e + 3)) base (pow_pos (e + 3)), round_up_near (2 ^ (e + 3)) (base + len) (pow_pos (e + 3)))

pub widened_length_coarser : (base len d e : ℕ) → d ≤ e → widened_length base len d ≤ widened_length base len e
widened_length_coarser base len d e ordered =
    omega (arith, round_down_coarser (d + 3) (e + 3) base (omega arith), round_up_coarser (d + 3) (e + 3) (base + len) (omega arith))

-- below 2^12 nothing is rounded
pub rounding_exponent_small : (base len : ℕ) → len < 2 ^ 12 → rounding_exponent base len ≡ 0
unfolding rounding_exponent
rounding_exponent_small base len small = rw (lt-ltb len (2 ^ 12) small) refl

pub rounding_exponent_long : (base len : ℕ) → 2 ^ 12 ≤ len → rounding_exponent base len ≡ least_fit (widened_length base len)
unfolding rounding_exponent
rounding_exponent_long base len long = rw (le-ltb len (2 ^ 12) long) refl

pub rounding_alignment_small : (base len : ℕ) → len < 2 ^ 12 → rounding_alignment base len ≡ 1
unfolding rounding_alignment
rounding_alignment_small base len small = rw (lt-ltb len (2 ^ 12) small) refl

pub rounding_alignment_long : (base len : ℕ) → 2 ^ 12 ≤ len → rounding_alignment base len ≡ 2 ^ (rounding_exponent base len + 3)
unfolding rounding_alignment
rounding_alignment_long base len long = rw (le-ltb len (2 ^ 12) long) refl

-- what both ends are rounded to is a power of 2, with this exponent
abbrev pub rounding_bits : ℕ → ℕ → ℕ
rounding_bits base len = if nat_lt len (2 ^ 12) then 0 else rounding_exponent base len + 3

pub rounding_bits_small : (base len : ℕ) → len < 2 ^ 12 → rounding_bits base len ≡ 0
rounding_bits_small base len small = rw (lt-ltb len (2 ^ 12) small) refl

pub rounding_bits_long : (base len : ℕ) → 2 ^ 12 ≤ len → rounding_bits base len ≡ rounding_exponent base len + 3
rounding_bits_long base len long = rw (le-ltb len (2 ^ 12) long) refl

pub rounding_alignment_power : (base len : ℕ) → rounding_alignment base len ≡ 2 ^ rounding_bits base len
rounding_alignment_power base len =
    elim (cases_lt len (2 ^ 12)) [
      | inl small ↦ rw (lt-ltb len (2 ^ 12) small) (rounding_alignment_small base len small)
      | inr long ↦ rw (le-ltb len (2 ^ 12) long) (rounding_alignment_long base len long)
    ]

pub rounded_base_is : (base len : ℕ) → rounded_base base len ≡ round_down (2 ^ rounding_bits base len) base
unfolding rounded_base
rounded_base_is base len = rw (rounding_alignment_power base len) refl

pub rounded_top_is : (base len : ℕ) → rounded_top base len ≡ round_up (2 ^ rounding_bits base len) (base + len)
unfolding rounded_top
rounded_top_is base len = rw (rounding_alignment_power base len) refl

-- the rounding holds the requested range
pub rounded_base_at_most : (base len : ℕ) → rounded_base base len ≤ base
rounded_base_at_most base len =
    let bits = rounding_bits base len in
    omega (arith, rounded_base_is base len, round_down_at_most (2 ^ bits) base (pow_pos bits))

pub rounded_top_at_least : (base len : ℕ) → base + len ≤ rounded_top base len
rounded_top_at_least base len =
    let bits = rounding_bits base len in
    omega (arith, rounded_top_is base len, round_up_at_least (2 ^ bits) (base + len) (pow_pos bits))

pub rounded_base_below : (base len : ℕ) → base < 2 ^ 64 → rounded_base base len < 2 ^ 64
rounded_base_below base len below = omega (arith, rounded_base_at_most base len)

pub rounding_ordered : (base len : ℕ) → rounded_base base len ≤ rounded_top base len
rounding_ordered base len = omega (arith, rounded_base_at_most base len, rounded_top_at_least base len)

-- the length of the rounding
abbrev pub rounded_length : ℕ → ℕ → ℕ
rounded_length base len = rounded_top base len - rounded_base base len

pub rounded_base_small : (base len : ℕ) → len < 2 ^ 12 → rounded_base base len ≡ base
rounded_base_small base len small =
    let power : 2 ^ rounding_bits base len ≡ 1 = rw (rounding_bits_small base len small) refl in
    rounded_base_is base len ∙ rw power (omega arith)

pub rounded_top_small : (base len : ℕ) → len < 2 ^ 12 → rounded_top base len ≡ base + len
rounded_top_small base len small =
    let power : 2 ^ rounding_bits base len ≡ 1 = rw (rounding_bits_small base len small) refl in
    rounded_top_is base len ∙ rw power (omega arith)

pub rounded_length_small : (base len : ℕ) → len < 2 ^ 12 → rounded_length base len ≡ len
rounded_length_small base len small = omega (arith, rounded_base_small base len small, rounded_top_small base len small)

pub rounded_length_long : (base len : ℕ) → 2 ^ 12 ≤ len → rounded_length base len ≡ widened_length base len (rounding_exponent base len)
rounded_length_long base len long =
    let from : rounded_base base len ≡ round_down (2 ^ (rounding_exponent base len + 3)) base = rw (← rounding_bits_long base len long) (rounded_base_is base len) in
    let to : rounded_top base len ≡ round_up (2 ^ (rounding_exponent base len + 3)) (base + len) = rw (← rounding_bits_long base len long) (rounded_top_is base len) in
    rw (from, to) refl

-- the exponent of a rounding is at most 52, so the search finds it
pub rounding_exponent_at_most : (base len : ℕ) → len ≤ 2 ^ 64 → rounding_exponent base len ≤ 52
rounding_exponent_at_most base len fits =
    elim (cases_lt len (2 ^ 12)) [
      | inl small ↦ omega (arith, rounding_exponent_small base len small)
      | inr long ↦ rw (rounding_exponent_long base len long) (least_fit_least (widened_length base len) 52 (omega (arith, widened_length_near base len 52)))
    ]

-- from 2^12 on the length of the rounding lies from 2^(E+12) to below 2^(E+13), where E is the rounding's exponent
pub rounded_length_top : (base len : ℕ) → 2 ^ 12 ≤ len → len ≤ 2 ^ 64 → rounded_length base len < 2 ^ (rounding_exponent base len + 13)
rounded_length_top base len long fits =
    rw (rounded_length_long base len long, rounding_exponent_long base len long)
    (least_fit_fits (widened_length base len) 52 (omega arith) (omega (arith, widened_length_near base len 52)))

widened_length_from : (base len e : ℕ) → 2 ^ 12 ≤ len → least_fit (widened_length base len) ≡ e → 2 ^ (e + 12) ≤ widened_length base len e
widened_length_from base len zero long is = omega (arith, widened_length_above base len 0)
widened_length_from base len (suc e) long is =
    le_trans (pow-le-pow_right {n = 2} (lit< tt) (omega arith))
    (le_trans (least_fit_before (widened_length base len) e (omega arith)) (widened_length_coarser base len e (suc e) (omega arith)))

pub rounded_length_bottom : (base len : ℕ) → 2 ^ 12 ≤ len → 2 ^ (rounding_exponent base len + 12) ≤ rounded_length base len
rounded_length_bottom base len long =
    rw (rounded_length_long base len long, rounding_exponent_long base len long) (widened_length_from base len _ long refl)

-- the rounded length has the rounding's exponent, the requested length's internal exponent bit, and the
-- rounding's alignment
pub exponent_of_rounding : (base len : ℕ) → len ≤ 2 ^ 64 → exponent (rounded_length base len) ≡ rounding_exponent base len
exponent_of_rounding base len fits =
    elim (cases_lt len (2 ^ 12)) [
      | inl small ↦ exponent_small _ (omega (arith, rounded_length_small base len small)) ∙ sym (rounding_exponent_small base len small)
      | inr long ↦ exponent_between _ _ (omega (arith, rounding_exponent_at_most base len fits)) (rounded_length_bottom base len long) (rounded_length_top base len long fits)
    ]

pub rounded_length_kept_long : (base len : ℕ) → 2 ^ 12 ≤ len → 2 ^ 12 ≤ rounded_length base len
rounded_length_kept_long base len long =
    le_trans (pow-le-pow_right {n = 2} (lit< tt) {i = 12} (omega arith)) (rounded_length_bottom base len long)

pub internal_exponent_of_rounding : (base len : ℕ) → internal_exponent (rounded_length base len) ≡ internal_exponent len
internal_exponent_of_rounding base len =
    elim (cases_lt len (2 ^ 12)) [
      | inl small ↦ internal_exponent_small _ (omega (arith, rounded_length_small base len small)) ∙ sym (internal_exponent_small len small)
      | inr long ↦ internal_exponent_long _ (rounded_length_kept_long base len long) ∙ sym (internal_exponent_long len long)
    ]

pub alignment_of_rounding : (base len : ℕ) → len ≤ 2 ^ 64 → alignment (rounded_length base len) ≡ rounding_alignment base len
alignment_of_rounding base len fits =
    elim (cases_lt len (2 ^ 12)) [
      | inl small ↦ alignment_small _ (omega (arith, rounded_length_small base len small)) ∙ sym (rounding_alignment_small base len small)
      | inr long ↦ rw (alignment_long (rounded_length base len) (rounded_length_kept_long base len long), exponent_of_rounding base len fits) (sym (rounding_alignment_long base len long))
    ]

pub rounding_bits_at_most : (base len : ℕ) → len ≤ 2 ^ 64 → rounding_bits base len ≤ 55
rounding_bits_at_most base len fits =
    elim (cases_lt len (2 ^ 12)) [
      | inl small ↦ omega (arith, rounding_bits_small base len small)
      | inr long ↦ omega (arith, rounding_bits_long base len long, rounding_exponent_at_most base len fits)
    ]

-- both ends are multiples of the alignment of the rounded length
pub rounded_base_multiple : (base len : ℕ) → len ≤ 2 ^ 64 → rounded_base base len % alignment (rounded_length base len) ≡ 0
rounded_base_multiple base len fits =
    rw (alignment_of_rounding base len fits, rounding_alignment_power base len, rounded_base_is base len)
    (round_down_multiple (2 ^ rounding_bits base len) base (pow_pos (rounding_bits base len)))

pub rounded_top_multiple : (base len : ℕ) → len ≤ 2 ^ 64 → rounded_top base len % alignment (rounded_length base len) ≡ 0
rounded_top_multiple base len fits =
    rw (alignment_of_rounding base len fits, rounding_alignment_power base len, rounded_top_is base len)
    (round_up_multiple (2 ^ rounding_bits base len) (base + len) (pow_pos (rounding_bits base len)))

-- a range that ends by 2^64 is rounded to one that does
pub rounded_top_below : (base len : ℕ) → len ≤ 2 ^ 64 → base + len ≤ 2 ^ 64 → rounded_top base len ≤ 2 ^ 64
rounded_top_below base len fits within =
    let bits = rounding_bits base len in
    rw (rounded_top_is base len)
    (round_up_least (2 ^ bits) (2 ^ 64) (base + len) (pow_pos bits)
    (multiple_of_lower_power bits 64 (2 ^ 64) (omega (arith, rounding_bits_at_most base len fits)) refl) within)

-- what the rounded length has of the requested one and of the rounding
pub ruleset rounded_length_laws = (exponent_of_rounding, internal_exponent_of_rounding, alignment_of_rounding, rounded_length_bottom, rounded_length_top)

-- that the rounding is bounds that a capability can have
pub ruleset rounded_bounds_laws = (rounded_base_below, rounding_ordered, rounded_top_below, rounded_base_multiple, rounded_top_multiple)

-- what holds of each rounding, and of one that is shorter than 2^12
pub ruleset rounding_holds = (rounded_base_at_most, rounded_top_at_least, rounding_exponent_at_most)

pub ruleset short_rounding = (rounding_exponent_small, rounded_base_small, rounded_top_small)
