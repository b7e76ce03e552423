-- what the properties so far ask for
use Rattle.std.proofs.Common.{◌≡◌, take}
use Rattle.explore_verdicts.specs.Deciding.{watches_of}
use Rattle.explore_verdicts.proofs.watching.watches_of.Given as goal

abbrev pub invariant-loop-property : goal.invariant-loop-property
invariant-loop-property l = l.watches.items ≡ watches_of (take l.property-index l.properties)
