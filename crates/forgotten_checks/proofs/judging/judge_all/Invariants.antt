-- the properties so far are judged
use Rattle.std.proofs.Common.{take}
use Rattle.explore_verdicts.specs.Verdicts.{AreVerdicts}
use Rattle.forgotten_checks.specs.StateVerdicts.{IsForgottenStateVerdict}
use Rattle.forgotten_checks.proofs.judging.judge_all.Given as goal

abbrev pub invariant-loop-property : goal.invariant-loop-property
invariant-loop-property l =
    AreVerdicts (IsForgottenStateVerdict l.survey) l.endless (take l.property-index l.properties) l.verdicts.items
