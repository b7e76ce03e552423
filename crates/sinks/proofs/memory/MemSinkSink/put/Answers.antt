use Rattle.std.proofs.Common.{arith}
use Rattle.std.proofs.lemmas.Grind.{common_steps}
use Rattle.sinks.proofs.memory.MemSinkSink.put.Goals as goal

pub returns-then-fails-clause-bytes : goal.returns-then-fails-clause-bytes
returns-then-fails-clause-bytes c = grind (arith, common_steps)

pub returns-then-fails-clause-chosen : goal.returns-then-fails-clause-chosen
returns-then-fails-clause-chosen c = grind (arith, common_steps)

pub returns-then-fails-clause-count : goal.returns-then-fails-clause-count
returns-then-fails-clause-count c = grind (arith, common_steps)

pub returns-clause-chosen : goal.returns-clause-chosen
returns-clause-chosen c = grind (arith, common_steps)
