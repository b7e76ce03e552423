use Rattle.graph_loops.proofs.labels.first_actor.Given as goal

abbrev pub invariant-loop-label : goal.invariant-loop-label
invariant-loop-label l = Unit {0}
