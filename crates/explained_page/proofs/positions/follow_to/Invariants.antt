-- The follower took the events so far.
use Rattle.cheri_model.specs.runs.Replay.{operations_of}
use Rattle.explanations.proofs.RunLemmas.{IsAt}
use Rattle.explained_page.proofs.positions.follow_to.Given as goal

abbrev pub invariant-loop-event : goal.invariant-loop-event
invariant-loop-event l = IsAt l.core.image l.core.limit (operations_of l.core.trace) l.event-index l.follower
