use Rattle.std.proofs.Common.{rules}
use Rattle.explore_verdicts.specs.Deciding.{decides}
use Rattle.explore_verdicts.proofs.deciding.Decision.is_made_in.Goals as goal

pub returns-in-Never : goal.returns-in-Never
unfolding decides
returns-in-Never g c = search rules

pub returns-in-Always : goal.returns-in-Always
unfolding decides
returns-in-Always g c = search rules

pub returns-in-Sometimes : goal.returns-in-Sometimes
unfolding decides
returns-in-Sometimes g c = search rules

pub returns-then-is_final : goal.returns-then-is_final
unfolding decides
returns-then-is_final g c = search rules

pub returns-else-is_final : goal.returns-else-is_final
unfolding decides
returns-else-is_final g c = search rules
