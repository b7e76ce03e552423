-- those so far see nothing
use Rattle.std.proofs.Common.{◌≡◌, take, true}
use Rattle.std.specs.List.{list_all}
use Rattle.explore_sights.specs.Watches.{hides}
use Rattle.explore_sights.proofs.watches.hide.Given as goal

abbrev pub invariant-loop-watch : goal.invariant-loop-watch
invariant-loop-watch l = list_all (λ watch. hides watch l.before l.after) (take l.watch-index l.watches) ≡ true
