-- The greatest number at most n that is congruent to c modulo s, and where the region of an address begins.
use Rattle.std.specs.Prelude.{◌≡◌, ℕ, ◌+◌, ◌-◌, ◌*◌, ◌/◌, ◌%◌, ◌^◌, ◌<◌, ◌≤◌}
use Rattle.std.proofs.Common.{suc, arith, inl, inr, ap, mul-le-mul_right, mod-lt}
use Rattle.std.proofs.Math.Nat.{add-mul-mod_self_right, mul-mod_left, pow-le-pow_right}
use Rattle.std.proofs.lemmas.Nat.{pow_pos, pow-add, div-add-mod', mod-mul-add, le-div}
use Rattle.std.proofs.lemmas.Bool.{cases_lt}
use Rattle.cap_model.specs.bounds.Numbers.{congruent_below}
use Rattle.cap_model.specs.words.RawBounds.{region_floor, region_start}
use Rattle.cap_model.specs.words.WordLaws.{IsGreatestBelow}

-- a multiple that is greater is greater by one stretch at least
one_stretch : (j k s : ℕ) → j * s < k * s → j * s + s ≤ k * s
one_stretch j k s h = elim (cases_lt j k) [
  | inl below ↦ omega (arith, mul-le-mul_right {m = suc j} {n = k} s below)
  | inr above ↦ absurd (omega (arith, mul-le-mul_right {m = k} {n = j} s above))
]

-- what is a multiple and c leaves c
leaves : (s c x j k : ℕ) → k ≡ suc j → x + s ≡ k * s + c → c < s → x % s ≡ c
leaves s c x j k e h below =
    let multiple = ap (λ (z : ℕ). z * s) e in
    let place : x ≡ j * s + c = omega arith in
    rw place (mod-mul-add j s c below)

-- no number that leaves c, of those at most n, is greater than one that is less than s below n
none_greater : (s c n x y : ℕ) → x % s ≡ c → n < x + s → y % s ≡ c → y ≤ n → y ≤ x
none_greater s c n x y congruent near p q =
    let first = div-add-mod' x s in
    let second = div-add-mod' y s in
    elim (cases_lt x y) [
      | inl above ↦ absurd (omega (arith, one_stretch (x / s) (y / s) s (omega arith)))
      | inr low ↦ low
    ]

-- `congruent_below` is what its name says
pub greatest_below : (s c n : ℕ) → c < s → s ≤ n → IsGreatestBelow s c n (congruent_below s c n)
greatest_below s c n h k =
    let positive : 0 < s = omega arith in
    let whole = div-add-mod' (n + (s - c)) s in
    let rest : (n + (s - c)) % s < s = mod-lt (n + (s - c)) positive in
    let some : 1 ≤ (n + (s - c)) / s = le-div 1 (n + (s - c)) s positive (omega arith) in
    let equal : congruent_below s c n % s ≡ c = leaves s c _ ((n + (s - c)) / s - 1) ((n + (s - c)) / s) (omega arith) (omega arith) h in
    let close : n < congruent_below s c n + s = omega arith in
    record {
      congruent = equal;
      at_most = omega arith;
      near = close;
      greatest = λ y p q. none_greater s c n (congruent_below s c n) y equal close p q;
    }

-- where the region of an address begins, for every b
pub region_start_greatest : (e b a : ℕ) → e ≤ 52 → IsGreatestBelow (2 ^ (e + 14)) (region_floor b * 2 ^ e) (a + 2 ^ 66) (region_start e b a)
unfolding region_start region_floor
region_start_greatest e b a h =
    let two : 0 < 2 = omega arith in
    let most : e + 14 ≤ 66 = omega arith in
    let fits : 2 ^ (e + 14) ≤ 2 ^ 66 = pow-le-pow_right two most in
    let low : (b / 2 ^ 11 + 7) % 8 * 2 ^ e ≤ 7 * 2 ^ e = mul-le-mul_right (2 ^ e) (omega arith) in
    greatest_below (2 ^ (e + 14)) ((b / 2 ^ 11 + 7) % 8 * 2 ^ 11 * 2 ^ e) (a + 2 ^ 66) (omega (arith, pow-add 2 e 14, pow_pos e)) (omega arith)

-- 2^66 is a whole number of regions, so that to count from -2^66 changes no congruence
pub regions_in_2_66 : (e : ℕ) → e ≤ 52 → 2 ^ 66 % 2 ^ (e + 14) ≡ 0
regions_in_2_66 e h =
    let sum : (52 - e) + (e + 14) ≡ 66 = omega arith in
    let parts : 2 ^ 66 ≡ 2 ^ (52 - e) * 2 ^ (e + 14) = rw sum at (pow-add 2 (52 - e) (e + 14)) in
    rw parts (mul-mod_left _ _)

-- the same distance, with as many whole regions more as it takes
shift : (v i k q n : ℕ) → k * 8 + i ≡ q + 7 → i < 8 → q * 2 ^ 11 * v ≤ n →
    n + (2 ^ 14 * v - i * 2 ^ 11 * v) ≡ (n + 2 ^ 11 * v - q * (2 ^ 11 * v)) + k * (2 ^ 14 * v)
shift v i k q n turned below low =
    let scaled = ap (λ (z : ℕ). z * v) turned in
    let small : i * v ≤ 7 * v = mul-le-mul_right v (omega arith) in
    omega arith

-- Where the region of the address a begins, for a base b * v, where v is 2^E: the distance from R to the
-- address, without its whole regions, back from the address.
pub start_is : (v b a : ℕ) → b * v ≤ 2 ^ 66 →
    congruent_below (2 ^ 14 * v) ((b % 2 ^ 14 / 2 ^ 11 + 7) % 8 * 2 ^ 11 * v) (a + 2 ^ 66)
    ≡ a + 2 ^ 66 - (a + 2 ^ 66 + 2 ^ 11 * v - b / 2 ^ 11 * (2 ^ 11 * v)) % (2 ^ 14 * v)
start_is v b a h =
    let low : b / 2 ^ 11 * 2 ^ 11 * v ≤ b * v = mul-le-mul_right v (omega arith) in
    let e = shift v ((b % 2 ^ 14 / 2 ^ 11 + 7) % 8) ((b / 2 ^ 11 + 7) / 8) (b / 2 ^ 11) (a + 2 ^ 66) (omega arith) (omega arith) (omega arith) in
    rw (e, add-mul-mod_self_right)
