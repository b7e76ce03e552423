-- those so far, each once, and then the others
use Rattle.std.proofs.Common.{◌≡◌, drop, map}
use Rattle.std.specs.Prelude.{[], fold}
use Rattle.sample_slices.specs.Sweeps.{range_of, united, with_range}
use Rattle.sample_slices.proofs.sweeps.unite_sweeps.Given as goal

abbrev pub invariant-loop-range : goal.invariant-loop-range
invariant-loop-range l = fold with_range l.ranges.items (drop l.range-index l.given) ≡ fold with_range [] l.given

abbrev pub invariant-loop-sweep : goal.invariant-loop-sweep
invariant-loop-sweep l =
    fold with_range l.ranges.items (map range_of (drop l.sweep-index l.more)) ≡ united l.given (map range_of l.more)
