-- The sweeps of a command line, and those that a listing allows.
use Rattle.std.specs.Prelude.{◌==◌, ◌&&◌, Bool, true, false, if◌then◌else◌}
use Rattle.std.specs.Prelude.{List, [], ◌∷◌, ◌++◌, fold}
use Rattle.explore_sweeps.specs.declared.Sweep.{Sweep}
use Rattle.schedules.specs.declared.ranges.SweepRange.{SweepRange}

-- the range of a sweep
abbrev pub range_of : Sweep → SweepRange
range_of sweep = record { lo = sweep.lo; hi = sweep.hi }

abbrev pub same_range : SweepRange → SweepRange → Bool
same_range a b = (a.lo == b.lo) && (a.hi == b.hi)

-- as many ranges, each of them the same
unfoldable pub same_ranges : List SweepRange → List SweepRange → Bool
same_ranges [] [] = true
same_ranges [] (other ∷ others) = false
same_ranges (range ∷ ranges) [] = false
same_ranges (range ∷ ranges) (other ∷ others) =
    if same_range range other then same_ranges ranges others else false

unfoldable pub is_among : List SweepRange → SweepRange → Bool
is_among [] range = false
is_among (other ∷ ranges) range =
    if same_range other range then true else is_among ranges range

-- ranges with one more, unless it is among them
abbrev pub with_range : List SweepRange → SweepRange → List SweepRange
with_range ranges range = if is_among ranges range then ranges else ranges ++ range ∷ []

-- ranges, and then others, each once
unfoldable pub united : List SweepRange → List SweepRange → List SweepRange
united given more = fold with_range (fold with_range [] given) more
