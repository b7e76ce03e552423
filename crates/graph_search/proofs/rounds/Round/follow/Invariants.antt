use Rattle.std.proofs.Common.{◌≡◌, ◌+◌, ◌<◌, ◌≤◌, ◌++◌, drop}
use Rattle.graph_search.specs.Rounds.{edges_at}
use Rattle.graph_search.proofs.rounds.Round.follow.Given as goal

abbrev pub invariant-loop-is_new : goal.invariant-loop-is_new
invariant-loop-is_new l = record {
  label : l.label < l.labels;
  from : l.from ≤ l.self.first + l.is_new-index;
  rest : l.edges.items ++ edges_at l.labels l.from l.label (drop l.is_new-index l.fresh)
      ≡ l.fn.edges.items ++ edges_at l.labels l.self.first 0 l.fresh;
}
