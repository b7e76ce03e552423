-- what is shared from the first on still is
use Rattle.owned_search.specs.Sought.{AreMoreShared}
use Rattle.owned_search.proofs.seeking.seek_owned.Given as goal

abbrev pub invariant-loop : goal.invariant-loop
invariant-loop g l = AreMoreShared l.matters.shared.now l.shared.items
