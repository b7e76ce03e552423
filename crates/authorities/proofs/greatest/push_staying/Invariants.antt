use Rattle.std.proofs.Common.{◌≡◌, ◌++◌, take}
use Rattle.std.specs.Prelude.{filter}
use Rattle.authorities.specs.Gathering.{stays}
use Rattle.authorities.proofs.greatest.push_staying.Given as goal

abbrev pub invariant-loop-authority : goal.invariant-loop-authority
invariant-loop-authority l =
    l.after.items ≡ l.fn.after.items ++ filter (stays l.rights l.before) (take l.authority-index l.greatest)
