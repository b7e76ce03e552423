-- A short name for `using(..)`: lists that are gone through one by one, and what is said as a whole.
use Rattle.explore_checks.proofs.EndingLemmas.{none_left, none_more, one_found}
use Rattle.explore_checks.proofs.LoopLemmas.{none_asks, none_so_far, this_asks}
use Rattle.explore_checks.proofs.OrderLemmas.{no_order, pushed_order}
use Rattle.explore_checks.proofs.TextLemmas.{said_whole}

pub ruleset checks = (
  none_more,
  one_found,
  none_left,
  none_so_far,
  this_asks,
  none_asks,
  pushed_order,
  no_order,
  said_whole,
)
