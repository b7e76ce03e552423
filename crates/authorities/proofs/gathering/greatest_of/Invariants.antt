use Rattle.graph_search.specs.Trees.{state_at}
use Rattle.states.specs.Graphs.{state_in}
use Rattle.authorities.specs.Gathering.{IsGathering}
use Rattle.authorities.proofs.gathering.greatest_of.Given as goal

abbrev pub invariant-loop-state : goal.invariant-loop-state
invariant-loop-state l =
    IsGathering (state_at (state_in l.graph) l.found.nodes) l.who l.graph.store l.gathering.greatest.items
    l.gathering.values.items l.gathering.parts.items l.state
