-- The parts have fewer entries than the whole.
use Rattle.std.proofs.Common.{length, ◌+◌, ◌*◌}
use Rattle.conditions.proofs.hiding.Step.+hiding.Given as goal

abbrev pub decreases-keeps : goal.decreases-keeps
decreases-keeps l = 2 * length l.entries.now + 1

abbrev pub decreases-keeps_parts : goal.decreases-keeps_parts
decreases-keeps_parts l = 2 * length l.entries.now

abbrev pub decreases-keeps_chain : goal.decreases-keeps_chain
decreases-keeps_chain l = 2 * length l.part.now + 1
