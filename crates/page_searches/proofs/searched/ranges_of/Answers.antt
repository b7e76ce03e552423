use Rattle.std.proofs.Common.{arith}
use Rattle.std.proofs.lemmas.Grind.{common_steps}
use Rattle.page_searches.proofs.searched.ranges_of.Goals as goal

pub loop-sweep-preserved : goal.loop-sweep-preserved
loop-sweep-preserved c = grind (arith, common_steps)
