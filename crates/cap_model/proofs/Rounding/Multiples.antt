-- Rounding down and up to multiples: how close it stays, and that no multiple lies between.
use Rattle.std.proofs.Common.{◌≡◌, ℕ, ◌+◌, ◌-◌, ◌*◌, ◌/◌, ◌%◌, ◌^◌, ◌<◌, ◌≤◌, le_antisymm, sym, ◌∙◌, arith}
use Rattle.std.proofs.lemmas.Nat.{div-add-mod', pow_pos, le-div, div_below, mod-pow-add}
use Rattle.std.proofs.Math.Nat.{mul-mod_left, mul-le-mul_right, add-mul-mod_self_right}
use Rattle.cap_model.specs.bounds.Numbers.{round_down, round_up}

pub round_down_at_most : (g n : ℕ) → 0 < g → round_down g n ≤ n
round_down_at_most g n positive = omega arith

pub round_down_near : (g n : ℕ) → 0 < g → n < round_down g n + g
round_down_near g n positive = omega arith

pub round_down_multiple : (g n : ℕ) → 0 < g → round_down g n % g ≡ 0
round_down_multiple g n positive = mul-mod_left (n / g) g

pub round_up_at_least : (g n : ℕ) → 0 < g → n ≤ round_up g n
round_up_at_least g n positive = omega arith

pub round_up_near : (g n : ℕ) → 0 < g → round_up g n < n + g
round_up_near g n positive = omega arith

pub round_up_multiple : (g n : ℕ) → 0 < g → round_up g n % g ≡ 0
round_up_multiple g n positive = mul-mod_left ((n + (g - 1)) / g) g

-- a multiple at most n is at most n rounded down, and one at least n is at least n rounded up
pub round_down_greatest : (g m n : ℕ) → 0 < g → m % g ≡ 0 → m ≤ n → m ≤ round_down g n
round_down_greatest g m n positive multiple below =
    let quotients : m / g ≤ n / g = le-div (m / g) n g positive (omega arith) in
    omega (arith, mul-le-mul_right g quotients)

pub round_up_least : (g m n : ℕ) → 0 < g → m % g ≡ 0 → n ≤ m → round_up g n ≤ m
round_up_least g m n positive multiple above =
    let quotients : (n + (g - 1)) / g < m / g + 1 = div_below (n + (g - 1)) g (m / g + 1) positive (omega arith) in
    let as_order : (n + (g - 1)) / g ≤ m / g = omega arith in
    omega (arith, mul-le-mul_right g as_order)

-- rounding leaves a multiple as it is
pub round_down_exact : (g n : ℕ) → 0 < g → n % g ≡ 0 → round_down g n ≡ n
round_down_exact g n positive multiple = omega arith

pub round_up_exact : (g n : ℕ) → 0 < g → n % g ≡ 0 → round_up g n ≡ n
round_up_exact g n positive multiple =
    le_antisymm (round_up_least g n n positive multiple (omega arith)) (round_up_at_least g n positive)

multiple_of_factor : (d i j n : ℕ) → d + i ≡ j → n % 2 ^ j ≡ 0 → n % 2 ^ i ≡ 0
multiple_of_factor d i j n sum multiple =
    let whole : n % 2 ^ (d + i) ≡ 0 = rw sum multiple in
    omega (arith, mod-pow-add n d i)

-- a multiple of a power of 2 is one of each lower power of 2
pub multiple_of_lower_power : (i j n : ℕ) → i ≤ j → n % 2 ^ j ≡ 0 → n % 2 ^ i ≡ 0
multiple_of_lower_power i j n ordered multiple = multiple_of_factor (j - i) i j n (omega arith) multiple

-- rounding to a lower power of 2 stays nearer
pub round_down_coarser : (i j n : ℕ) → i ≤ j → round_down (2 ^ j) n ≤ round_down (2 ^ i) n
round_down_coarser i j n ordered =
    round_down_greatest (2 ^ i) _ n (pow_pos i)
    (multiple_of_lower_power i j (round_down (2 ^ j) n) ordered (round_down_multiple (2 ^ j) n (pow_pos j)))
    (round_down_at_most (2 ^ j) n (pow_pos j))

pub round_up_coarser : (i j n : ℕ) → i ≤ j → round_up (2 ^ i) n ≤ round_up (2 ^ j) n
round_up_coarser i j n ordered =
    round_up_least (2 ^ i) _ n (pow_pos i)
    (multiple_of_lower_power i j (round_up (2 ^ j) n) ordered (round_up_multiple (2 ^ j) n (pow_pos j)))
    (round_up_at_least (2 ^ j) n (pow_pos j))

-- the sum of two multiples is one
pub multiple_sum : (g m n : ℕ) → m % g ≡ 0 → n % g ≡ 0 → (m + n) % g ≡ 0
multiple_sum g m n first second =
    let sum : m + n ≡ (m / g + n / g) * g = omega (arith, div-add-mod' m g, div-add-mod' n g) in
    rw sum (mul-mod_left (m / g + n / g) g)

-- what a multiple and a sum that is one differ by is one
pub multiple_rest : (g m n : ℕ) → m % g ≡ 0 → (m + n) % g ≡ 0 → n % g ≡ 0
multiple_rest g m n first both =
    let whole : m + n ≡ n + m / g * g = omega (arith, div-add-mod' m g) in
    sym (add-mul-mod_self_right n (m / g) g) ∙ (rw whole at both)
