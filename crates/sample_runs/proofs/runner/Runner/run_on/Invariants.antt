use Rattle.std.proofs.Common.{◌≡◌, ◌+◌, ◌-◌, ◌≤◌, length}
use Rattle.sample_draws.specs.Orders.{run_from}
use Rattle.sample_runs.specs.Runners.{moment_of, steps_of}
use Rattle.sample_runs.proofs.runner.Runner.run_on.Given as goal

-- the operations that are left lead to the run's end
abbrev pub invariant-loop-left : goal.invariant-loop-left
invariant-loop-left l = record {
  image : l.self.image ≡ l.fn.self.image;
  left : l.left ≤ l.drawing.length;
  steps : steps_of l.draws.priorities + l.left ≤ l.drawing.length;
  state : (run_from l.fn.self.image l.drawing l.left (moment_of l.self l.draws)).1.state
      ≡ (run_from l.fn.self.image l.drawing l.drawing.length (moment_of l.fn.self l.fn.draws)).1.state;
  count : (l.drawing.length - l.left) + length (run_from l.fn.self.image l.drawing l.left (moment_of l.self l.draws)).0
      ≡ length (run_from l.fn.self.image l.drawing l.drawing.length (moment_of l.fn.self l.fn.draws)).0;
}

abbrev pub decreases-loop-left : goal.decreases-loop-left
decreases-loop-left l = l.left
