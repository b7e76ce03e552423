-- none so far is violated
use Rattle.std.proofs.Common.{◌≡◌, drop}
use Rattle.explore_checks.specs.Checks.{first_violated}
use Rattle.explore_checks.proofs.answers.first_violated.Given as goal

abbrev pub invariant-loop-property : goal.invariant-loop-property
invariant-loop-property l = first_violated (drop l.property-index l.told) ≡ first_violated l.told
