-- each turn counts at most one look
use Rattle.std.specs.Prelude.{◌≤◌}
use Rattle.sim_program.proofs.races.look_often.Given as goal

abbrev pub invariant-loop-look : goal.invariant-loop-look
invariant-loop-look g l = l.looks ≤ l.look
