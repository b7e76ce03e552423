use Rattle.std.proofs.Common.{◌++◌, take}
use Rattle.authorities.specs.Gathering.{AreApart}
use Rattle.authorities.specs.Merging.{IsMerged}
use Rattle.authorities.proofs.merging.merge.Given as goal

abbrev pub invariant-loop-authority : goal.invariant-loop-authority
invariant-loop-authority l =
    AreApart l.fn.greatest.items → IsMerged (l.fn.greatest.items ++ take l.authority-index l.others) l.greatest.items
