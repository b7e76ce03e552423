-- Regions of addresses in steps: s is the size of a step, and a region has 2^14 steps.
use Rattle.std.proofs.Common.{◌≡◌, ℕ, ◌+◌, ◌-◌, ◌*◌, ◌/◌, ◌%◌, ◌^◌, ◌<◌, ◌≤◌, arith, refl, ap, lit<}
use Rattle.std.proofs.Math.Nat.{mul-le-mul_right}
use Rattle.std.proofs.lemmas.Nat.{mod-mul-add, mul-add-lt, pow-add, pow_pos, mod_below, div-add-mod'}

-- a remainder by a multiple of the step, of a number given in steps and a rest
mod-steps : (x s m r : ℕ) → 0 < m → r < s → (x * s + r) % (m * s) ≡ x % m * s + r
mod-steps x s m r some below =
    let small : x % m * s + r < m * s = omega (arith, mul-add-lt (x % m) s r m (mod_below x m some) below) in
    let whole : x * s + r ≡ x / m * (m * s) + (x % m * s + r) = omega (arith, ap (λ k. k * s) (div-add-mod' x m)) in
    rw whole (mod-mul-add (x / m) (m * s) (x % m * s + r) small)

-- the address less its distance to the start, in steps
start_less : (s place rest away steps addr : ℕ) → place * s + rest ≡ addr → steps + away ≡ 2 ^ 66 + place →
    away * s ≤ 2 ^ 66 → steps * s + 2 ^ 66 ≡ addr + 2 ^ 66 - (away * s + rest) + 2 ^ 66 * s
start_less s place rest away steps addr split sum fits = omega (arith, ap (λ k. k * s) sum)

-- the number whose remainder is the distance to the start, in steps
distance : (s regions place rest addr floor gap : ℕ) → place * s + rest ≡ addr → gap + floor ≡ 2 ^ 14 →
    2 ^ 66 ≡ regions * (2 ^ 14 * s) →
    addr + 2 ^ 66 + (2 ^ 14 * s - floor * s) ≡ (place + regions * 2 ^ 14 + gap) * s + rest
distance s regions place rest addr floor gap split sum whole = omega (arith, ap (λ k. k * s) sum)

-- the distance to the start is less than a region
distance_fits : (s regions away : ℕ) → 2 ^ 66 ≡ regions * (2 ^ 14 * s) → 0 < regions → away < 2 ^ 14 → away * s ≤ 2 ^ 66
distance_fits s regions away whole some below =
    let most : away ≤ 2 ^ 14 = omega arith in
    omega (arith, mul-le-mul_right s most, mul-le-mul_right (2 ^ 14 * s) some)

-- the start, so many steps from 2^66 steps below 0, is the greatest such number from 2^66 below 0
start_by_step : (s regions addr floor gap away steps : ℕ) → 0 < s → 2 ^ 66 ≡ regions * (2 ^ 14 * s) → 0 < regions →
    gap + floor ≡ 2 ^ 14 → away ≡ (addr / s + gap) % 2 ^ 14 → steps + away ≡ 2 ^ 66 + addr / s →
    steps * s + 2 ^ 66 ≡ addr + 2 ^ 66 - (addr + 2 ^ 66 + (2 ^ 14 * s - floor * s)) % (2 ^ 14 * s) + 2 ^ 66 * s
start_by_step s regions addr floor gap away steps positive whole some sum is back =
    let split : addr / s * s + addr % s ≡ addr = div-add-mod' addr s in
    let far : addr + 2 ^ 66 + (2 ^ 14 * s - floor * s) ≡ (addr / s + regions * 2 ^ 14 + gap) * s + addr % s =
    distance s regions (addr / s) (addr % s) addr floor gap split sum whole in
    let here : (addr / s + regions * 2 ^ 14 + gap) % 2 ^ 14 ≡ away = omega arith in
    let below : away < 2 ^ 14 = omega arith in
    rw (far, mod-steps (addr / s + regions * 2 ^ 14 + gap) s (2 ^ 14) (addr % s) (lit< tt) (mod_below addr s positive), here)
    (start_less s (addr / s) (addr % s) away steps addr split back (distance_fits s regions away whole some below))

-- the same where a step is 2^e
pub steps_of_start : (e addr floor steps : ℕ) → e ≤ 52 → floor < 2 ^ 14 →
    steps + (addr / 2 ^ e + (2 ^ 14 - floor)) % 2 ^ 14 ≡ 2 ^ 66 + addr / 2 ^ e →
    steps * 2 ^ e + 2 ^ 66 ≡ addr + 2 ^ 66 - (addr + 2 ^ 66 + (2 ^ (e + 14) - floor * 2 ^ e)) % 2 ^ (e + 14) + 2 ^ 66 * 2 ^ e
steps_of_start e addr floor steps h below back =
    let size : 2 ^ (e + 14) ≡ 2 ^ 14 * 2 ^ e = omega (arith, pow-add 2 e 14) in
    let room : 2 ^ (52 - e + e) ≡ 2 ^ (52 - e) * 2 ^ e = pow-add 2 (52 - e) e in
    let all : 52 - e + e ≡ 52 = omega arith in
    let whole : 2 ^ 52 ≡ 2 ^ (52 - e) * 2 ^ e = rw all at room in
    let regions : 2 ^ 66 ≡ 2 ^ (52 - e) * (2 ^ 14 * 2 ^ e) = omega (arith, whole) in
    let sum : 2 ^ 14 - floor + floor ≡ 2 ^ 14 = omega arith in
    rw size
    (start_by_step (2 ^ e) (2 ^ (52 - e)) addr floor (2 ^ 14 - floor) ((addr / 2 ^ e + (2 ^ 14 - floor)) % 2 ^ 14) steps
    (pow_pos e) regions (pow_pos (52 - e)) sum refl back)

-- the start itself modulo 2^64
pub start_below_64 : (steps s start : ℕ) → steps * s + 2 ^ 66 ≡ start + 2 ^ 66 * s → steps * s % 2 ^ 64 ≡ start % 2 ^ 64
start_below_64 steps s start h = omega arith

-- the same steps modulo 2^64, whichever of both starts they are counted from
pub same_below_64 : (steps more s start : ℕ) → steps * s + 2 ^ 66 ≡ start + 2 ^ 66 * s →
    (steps + more) * s % 2 ^ 64 ≡ (start + more * s) % 2 ^ 64
same_below_64 steps more s start h = omega arith

-- and modulo 2^65
pub same_below_65 : (steps more s start : ℕ) → steps * s + 2 ^ 66 ≡ start + 2 ^ 66 * s →
    (steps + more) * s % 2 ^ 65 ≡ (start + more * s) % 2 ^ 65
same_below_65 steps more s start h = omega arith

pub ruleset places = (steps_of_start, start_below_64, same_below_64, same_below_65)
