use Rattle.std.proofs.Common.{◌≡◌, ◌+◌, ◌<◌, ◌≤◌}
use Rattle.sample_draws.specs.Cycles.{cycle_from}
use Rattle.sample_steps.specs.declared.hanging.TheConstants.{ALONE}
use Rattle.sample_steps.specs.Hangs.{goes_round}
use Rattle.sample_steps.proofs.hanging.goes_round.Given as goal

-- what is left decides; memory is as it was
abbrev pub invariant-loop-left : goal.invariant-loop-left
invariant-loop-left l = record {
  ram : l.ram ≡ l.fn.ram;
  value : goes_round l.program l.left l.cycle l.alone l.ram
      ≡ goes_round l.program ALONE (cycle_from l.hart) l.hart l.fn.ram;
  since : l.cycle.since < l.cycle.span;
  span : l.cycle.span + l.cycle.since + l.left ≤ 1001;
}

abbrev pub decreases-loop-left : goal.decreases-loop-left
decreases-loop-left l = l.left
