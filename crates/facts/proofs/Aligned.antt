-- The bounds of a word that lie in those of a tagged capability are multiples of their alignment.
use Rattle.std.proofs.Common.{◌≡◌, ℕ, ◌/◌, ◌%◌, ◌^◌, ◌≤◌, ◌==◌, true, refl, arith}
use Rattle.std.specs.Prelude.{◌&&◌}
use Rattle.cap_model.specs.values.Capability.{capability_at}
use Rattle.cap_model.specs.values.CapValue.{CapValue, valid, raw, IsLawfulValue, tag_of}
use Rattle.cap_model.specs.results.Readings.{base_of, top_of}
use Rattle.cap_model.specs.results.Rebuilt.{are_aligned}
use Rattle.cap_model.proofs.Bounds.RawAligned.{raw_bounds_aligned}

both_true : (a b : ℕ) → a ≡ 0 → b ≡ 0 → ((a == 0) && (b == 0)) ≡ true
both_true a b is_a is_b = rw (is_a, is_b) refl

pub rebuilt_aligned : (v w : CapValue) → IsLawfulValue v → IsLawfulValue w → tag_of v ≡ true → top_of w ≤ top_of v → are_aligned (base_of w) (top_of w) ≡ true
unfolding capability_at
rebuilt_aligned (raw word) w lawful_v lawful_w tagged within = absurd (cc)
rebuilt_aligned (valid c) (raw word) lawful_v lawful_w tagged within =
    let below = lawful_v.top_at_most in
    raw_bounds_aligned (word / 2 ^ 64) (word % 2 ^ 64) (omega arith)
rebuilt_aligned (valid c) (valid d) lawful_v lawful_w tagged within =
    both_true _ _ lawful_w.base_fits lawful_w.top_fits
