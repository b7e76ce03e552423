-- The last correction of a top gives the top back, whatever multiple of 2^64 the region's start added.
use Rattle.std.specs.Prelude.{◌≡◌, ℕ, ◌+◌, ◌-◌, ◌*◌, ◌/◌, ◌%◌, ◌^◌, ◌<◌, ◌≤◌, nat_lt, if◌then◌else◌}
use Rattle.std.proofs.Common.{arith, inl, inr}
use Rattle.std.proofs.lemmas.Bool.{cases_lt, lt-ltb, le-ltb}
use Rattle.cap_model.specs.words.RawBounds.{corrected_top}

-- A top at most one step of 2^63 above the base is left alone, and one that is 2^64 too high or too low is not.
step : (base t n : ℕ) → base ≤ t → t ≤ 2 ^ 64 → t < base + 2 ^ 63 →
    (if nat_lt 1 (((t + n * 2 ^ 64) % 2 ^ 65 / 2 ^ 63 + 4 - base / 2 ^ 63) % 4) then ((t + n * 2 ^ 64) % 2 ^ 65 + 2 ^ 64) % 2 ^ 65 else (t + n * 2 ^ 64) % 2 ^ 65) ≡ t
step base t n p q r =
    elim (cases_lt 1 (((t + n * 2 ^ 64) % 2 ^ 65 / 2 ^ 63 + 4 - base / 2 ^ 63) % 4)) [
      | inl apart ↦ rw (lt-ltb _ _ apart) (omega arith)
      | inr near ↦ rw (le-ltb _ _ near) (omega arith)
    ]

-- up to exponent 50
pub corrected_low : (e base t n : ℕ) → e < 51 → base ≤ t → t ≤ 2 ^ 64 → t < base + 2 ^ 63 →
    corrected_top e base ((t + n * 2 ^ 64) % 2 ^ 65) ≡ t
unfolding corrected_top
corrected_low e base t n h p q r = rw (lt-ltb e 51 h) (step base t n p q r)

-- from exponent 51 on the top needs no correction
pub corrected_high : (e base t n : ℕ) → 51 ≤ e → t ≤ 2 ^ 64 → corrected_top e base ((t + n * 2 ^ 65) % 2 ^ 65) ≡ t
unfolding corrected_top
corrected_high e base t n h q = rw (le-ltb e 51 h) (omega arith)
