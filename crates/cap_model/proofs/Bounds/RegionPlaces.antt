-- Where the region of an address in the window begins: at R, and a multiple of 2^64, or from exponent 51 on of 2^65.
-- Here the base is b * v, where v is 2^E, and n is the address with 2^66 more.
use Rattle.std.specs.Prelude.{◌≡◌, ℕ, ◌+◌, ◌-◌, ◌*◌, ◌/◌, ◌%◌, ◌^◌, ◌<◌, ◌≤◌}
use Rattle.std.proofs.Common.{arith, ap, ◌∙◌, mul-le-mul_right, mod-lt, sym}
use Rattle.std.proofs.lemmas.Nat.{div-add-mod', mod-mul-add, pow-add, shr-shr}
use Rattle.cap_model.specs.bounds.Numbers.{congruent_below}
use Rattle.cap_model.proofs.Bounds.RegionStarts.{start_is}
use Rattle.cap_model.specs.bounds.Lengths.{exponent}
use Rattle.cap_model.specs.bounds.Window.{window_offset, IsInWindow}

-- how far the address is above R
abbrev pub above_floor : ℕ → ℕ → ℕ → ℕ
above_floor v b a = a + 2 ^ 66 + 2 ^ 11 * v - b / 2 ^ 11 * (2 ^ 11 * v)

-- where its region begins
abbrev pub start_of : ℕ → ℕ → ℕ → ℕ
start_of v b a = congruent_below (2 ^ 14 * v) ((b % 2 ^ 14 / 2 ^ 11 + 7) % 8 * 2 ^ 11 * v) (a + 2 ^ 66)

-- how far it is above R, going round at 2^64
abbrev pub place_of : ℕ → ℕ → ℕ → ℕ
place_of v b a = (a + 2 ^ 64 + 2 ^ 11 * v - b / 2 ^ 11 * (2 ^ 11 * v)) % 2 ^ 64

-- the start is R and whole regions
pub start_whole : (v b a : ℕ) → 0 < v → v ≤ 2 ^ 52 → b * v < 2 ^ 64 →
    start_of v b a + 2 ^ 11 * v ≡ b / 2 ^ 11 * (2 ^ 11 * v) + above_floor v b a / (2 ^ 14 * v) * (2 ^ 14 * v)
start_whole v b a p q h =
    let low : b / 2 ^ 11 * 2 ^ 11 * v ≤ b * v = mul-le-mul_right v (omega arith) in
    let whole = div-add-mod' (above_floor v b a) (2 ^ 14 * v) in
    let rest : above_floor v b a % (2 ^ 14 * v) < 2 ^ 14 * v = mod-lt (above_floor v b a) (omega arith) in
    rw (start_is v b a (omega arith)) (omega arith)

-- In the window of an exponent up to 49 the start is R and a multiple of 2^64.
pub start_inside : (v b a m : ℕ) → 0 < v → v ≤ 2 ^ 52 → b * v < 2 ^ 64 → m * (2 ^ 14 * v) ≡ 2 ^ 64 →
    place_of v b a < 2 ^ 14 * v →
    start_of v b a + 2 ^ 11 * v ≡ b / 2 ^ 11 * (2 ^ 11 * v) + above_floor v b a / 2 ^ 64 * 2 ^ 64
start_inside v b a m p q h whole inside =
    let low : b / 2 ^ 11 * 2 ^ 11 * v ≤ b * v = mul-le-mul_right v (omega arith) in
    let n : ℕ = above_floor v b a / 2 ^ 64 in
    let scaled = ap (λ (z : ℕ). n * z) whole in
    let place : above_floor v b a ≡ n * m * (2 ^ 14 * v) + place_of v b a = omega arith in
    let rest : above_floor v b a % (2 ^ 14 * v) ≡ place_of v b a =
    ap (λ (z : ℕ). z % (2 ^ 14 * v)) place ∙ mod-mul-add (n * m) (2 ^ 14 * v) (place_of v b a) inside in
    omega (arith, start_whole v b a p q h, div-add-mod' (above_floor v b a) (2 ^ 14 * v))

-- Where a region has a multiple of 2^64 addresses, or of 2^65, the start is R and such a multiple for every address.
pub start_wide : (v b a k size : ℕ) → 0 < v → v ≤ 2 ^ 52 → b * v < 2 ^ 64 → 2 ^ 14 * v ≡ k * size →
    start_of v b a + 2 ^ 11 * v ≡ b / 2 ^ 11 * (2 ^ 11 * v) + above_floor v b a / (2 ^ 14 * v) * k * size
start_wide v b a k size p q h whole =
    let scaled = ap (λ (z : ℕ). above_floor v b a / (2 ^ 14 * v) * z) whole in
    omega (arith, start_whole v b a p q h)

-- A bound l steps above the base lies as far above R as the base does, and l steps more.
pub offset_is : (b l : ℕ) → l < 2 ^ 13 →
    ((b + l) % 2 ^ 14 + 2 ^ 14 - (b % 2 ^ 14 / 2 ^ 11 + 7) % 8 * 2 ^ 11) % 2 ^ 14 ≡ 2 ^ 11 + b % 2 ^ 11 + l
offset_is b l h = omega arith

-- the start and the offset make the bound, and the multiple that the start has
pub bound_from : (v b l start n size : ℕ) → start + 2 ^ 11 * v ≡ b / 2 ^ 11 * (2 ^ 11 * v) + n * size →
    start + (2 ^ 11 + b % 2 ^ 11 + l) * v ≡ b * v + l * v + n * size
bound_from v b l start n size e =
    let digits : b ≡ b / 2 ^ 11 * 2 ^ 11 + b % 2 ^ 11 = omega arith in
    let scaled = ap (λ (z : ℕ). z * v) digits in
    omega arith

-- the size of a region
pub region_size : (e : ℕ) → 2 ^ (e + 14) ≡ 2 ^ 14 * 2 ^ e
region_size e = omega (arith, pow-add 2 e 14)

-- the distance from R is that over the base's digits
pub window_place : (e base a : ℕ) → window_offset e base a ≡ place_of (2 ^ e) (base / 2 ^ e) a
window_place e base a =
    let size : 2 ^ (e + 11) ≡ 2 ^ 11 * 2 ^ e = omega (arith, pow-add 2 e 11) in
    let digits : base / 2 ^ (e + 11) ≡ base / 2 ^ e / 2 ^ 11 = sym (shr-shr base e 11) in
    rw (digits, size)

-- an address in the window is less than one region above R
pub place_from_window : (base len a : ℕ) → IsInWindow base len a → exponent len < 50 →
    place_of (2 ^ exponent len) (base / 2 ^ exponent len) a < 2 ^ 14 * 2 ^ exponent len
unfolding IsInWindow
place_from_window base len a h low = rw (← window_place (exponent len) base a, ← region_size (exponent len)) (h low)

-- and the other way round
pub window_from_place : (base len a : ℕ) →
    (exponent len < 50 → place_of (2 ^ exponent len) (base / 2 ^ exponent len) a < 2 ^ 14 * 2 ^ exponent len) → IsInWindow base len a
unfolding IsInWindow
window_from_place base len a h = λ low. rw (window_place (exponent len) base a, region_size (exponent len)) (h low)
