-- those so far are the same
use Rattle.std.proofs.Common.{◌≡◌, take}
use Rattle.explore_sights.proofs.watches.copied.Given as goal

abbrev pub invariant-loop-watch : goal.invariant-loop-watch
invariant-loop-watch l = l.copies.items ≡ take l.watch-index l.watches
