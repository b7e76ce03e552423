-- of those so far it is known
use Rattle.std.proofs.Common.{◌≡◌, take, true}
use Rattle.std.specs.List.{list_all}
use Rattle.explore_checks.specs.Checks.{is_known}
use Rattle.explore_checks.proofs.answers.are_known.Given as goal

abbrev pub invariant-loop-property : goal.invariant-loop-property
invariant-loop-property l = list_all (λ told. is_known told.verdict) (take l.property-index l.told) ≡ true
