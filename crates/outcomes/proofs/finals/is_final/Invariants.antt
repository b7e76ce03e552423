-- no hart so far runs
use Rattle.std.proofs.Common.{◌≡◌, take, true}
use Rattle.std.specs.List.{list_all}
use Rattle.outcomes.specs.Outcomes.{is_stopped}
use Rattle.outcomes.proofs.finals.is_final.Given as goal

abbrev pub invariant-loop-hart : goal.invariant-loop-hart
invariant-loop-hart g l = list_all is_stopped (take l.hart (g.V.StateView.state l.view).harts) ≡ true
