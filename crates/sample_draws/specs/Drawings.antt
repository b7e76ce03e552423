-- How orders are drawn: all that the order of a run depends on, but for the image and the run's
-- number.
use Rattle.std.specs.Prelude.{ℕ, nat_le, Bool, true, ◌&&◌, List, [], ◌∷◌, length, Option, Some}
use Rattle.std.specs.Prelude.{None}
use Rattle.cheri_model.specs.runs.Sweeps.{is_range}
use Rattle.schedules.specs.declared.ranges.SweepRange.{SweepRange}
use Rattle.sample_draws.specs.declared.drawing.TheConstants.{MAX_SEED, MAX_LENGTH, MAX_DEPTH}
use Rattle.sample_draws.specs.declared.drawing.TheConstants.{MAX_SWEEPS}

-- the seed; the most operations of a run; the depth, where harts have priorities; and the sweeps
-- that may come
pub record DrawingParts : Type 0 where
  pub seed : ℕ
  pub length : ℕ
  pub depth : Option ℕ
  pub sweeps : List SweepRange

abbrev pub is_depth : Option ℕ → Bool
is_depth None = true
is_depth (Some depth) = nat_le 1 depth && nat_le depth MAX_DEPTH

abbrev pub is_length : ℕ → Bool
is_length length = nat_le 1 length && nat_le length MAX_LENGTH

-- each range can be swept
unfoldable pub are_ranges : List SweepRange → Bool
are_ranges [] = true
are_ranges (range ∷ ranges) = is_range range.lo range.hi && are_ranges ranges

unfoldable pub is_drawing : DrawingParts → Bool
is_drawing drawing =
    nat_le drawing.seed MAX_SEED
    && is_length drawing.length
    && is_depth drawing.depth
    && nat_le (length drawing.sweeps) MAX_SWEEPS
    && are_ranges drawing.sweeps
