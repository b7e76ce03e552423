-- what was added is this hart
use Rattle.std.proofs.Common.{◌+◌, ◌-◌, length}
use Rattle.sample_tallies.specs.Known.{Adds}
use Rattle.sample_tallies.proofs.numbering.keep_hart.Given as goal

abbrev pub invariant-loop-harts : goal.invariant-loop-harts
invariant-loop-harts l = Adds l.fn.harts.items (record { number = l.number; hart = l.hart }) l.harts.items

abbrev pub decreases-loop-harts : goal.decreases-loop-harts
decreases-loop-harts l = l.place + 1 - length l.harts.items
