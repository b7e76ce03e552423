use Rattle.std.proofs.Common.{◌≡◌, ◌+◌, ◌≤◌, ◌++◌}
use Rattle.sample_draws.specs.Orders.{run_from, drawn_run}
use Rattle.sample_runs.specs.Runners.{moment_of, steps_of}
use Rattle.sample_runs.proofs.runner.Runner.order.Given as goal

-- the operations so far and those that are left are the run's
abbrev pub invariant-loop-left : goal.invariant-loop-left
invariant-loop-left l = record {
  image : l.self.image ≡ l.fn.self.image;
  left : l.left ≤ l.drawing.length;
  steps : steps_of l.draws.priorities + l.left ≤ l.drawing.length;
  state : (run_from l.fn.self.image l.drawing l.left (moment_of l.self l.draws)).1.state
      ≡ (drawn_run l.fn.self.image l.drawing l.run).1.state;
  order : l.order.items ++ (run_from l.fn.self.image l.drawing l.left (moment_of l.self l.draws)).0
      ≡ (drawn_run l.fn.self.image l.drawing l.run).0;
}

abbrev pub decreases-loop-left : goal.decreases-loop-left
decreases-loop-left l = l.left
