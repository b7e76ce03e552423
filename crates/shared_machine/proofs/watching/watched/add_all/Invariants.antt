-- the order so far is that of the events so far
use Rattle.std.proofs.Common.{◌≡◌, take}
use Rattle.cheri_model.specs.runs.Replay.{operations_of}
use Rattle.shared_machine.proofs.watching.watched.add_all.Given as goal

abbrev pub invariant-loop-event : goal.invariant-loop-event
invariant-loop-event g l = l.keeper ≡ operations_of (take l.event-index l.events)
