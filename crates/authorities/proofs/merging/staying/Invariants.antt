use Rattle.std.proofs.Common.{◌≡◌, take}
use Rattle.std.specs.Prelude.{filter}
use Rattle.authorities.specs.Merging.{stays_beside}
use Rattle.authorities.proofs.merging.staying.Given as goal

abbrev pub invariant-loop-held : goal.invariant-loop-held
invariant-loop-held l = l.after.items ≡ filter (stays_beside l.new) (take l.held-index l.greatest)
