use Rattle.std.proofs.Common.{◌≡◌, ◌+◌, ◌++◌, length}
use Rattle.sample_draws.specs.Ranks.{drawn_places}
use Rattle.sample_draws.proofs.ranks.drawn_places.Given as goal

-- the places so far and those that are left are all
abbrev pub invariant-loop-left : goal.invariant-loop-left
invariant-loop-left l = record {
  count : length l.places.items + l.left ≡ l.count;
  places : l.places.items ++ (drawn_places l.left l.length l.words).0
      ≡ (drawn_places l.count l.length l.fn.words).0;
  words : (drawn_places l.left l.length l.words).1
      ≡ (drawn_places l.count l.length l.fn.words).1;
}

abbrev pub decreases-loop-left : goal.decreases-loop-left
decreases-loop-left l = l.left
