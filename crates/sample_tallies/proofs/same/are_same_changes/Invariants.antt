-- the changes so far are the same
use Rattle.sample_tallies.proofs.KnownLemmas.{AreSame}
use Rattle.sample_tallies.proofs.same.are_same_changes.Given as goal

abbrev pub invariant-loop-place : goal.invariant-loop-place
invariant-loop-place l = AreSame l.a l.b l.place
