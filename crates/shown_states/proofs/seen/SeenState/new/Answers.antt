use Rattle.std.proofs.Common.{ap}
use Rattle.shown_states.specs.Meant.{state_meant}
use Rattle.shown_states.proofs.seen.SeenState.new.Goals as goal

pub returns : goal.returns
returns c s is = ap state_meant is
