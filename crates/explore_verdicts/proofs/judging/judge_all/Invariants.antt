-- the properties so far are judged
use Rattle.std.proofs.Common.{take}
use Rattle.explore_verdicts.specs.Verdicts.{AreVerdicts, IsStateVerdict}
use Rattle.explore_verdicts.proofs.judging.judge_all.Given as goal

abbrev pub invariant-loop-property : goal.invariant-loop-property
invariant-loop-property l = AreVerdicts (IsStateVerdict l.kept) l.endless (take l.property-index l.properties) l.verdicts.items
