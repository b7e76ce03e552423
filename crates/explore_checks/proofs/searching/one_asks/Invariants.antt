-- none so far does
use Rattle.std.proofs.Common.{◌≡◌, drop}
use Rattle.explore_checks.specs.Checks.{one_asks}
use Rattle.explore_checks.proofs.searching.one_asks.Given as goal

abbrev pub invariant-loop-property : goal.invariant-loop-property
invariant-loop-property l = one_asks (drop l.property-index l.properties) ≡ one_asks l.properties
