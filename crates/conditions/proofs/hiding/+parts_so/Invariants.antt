use Rattle.std.proofs.Common.{length}
use Rattle.conditions.proofs.hiding.+parts_so.Given as goal

abbrev pub decreases-parts_so : goal.decreases-parts_so
decreases-parts_so l = length l.entries.now
