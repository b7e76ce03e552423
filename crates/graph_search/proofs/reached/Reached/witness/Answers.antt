use Rattle.std.proofs.Common.{◌≡◌, [], arith}
use Rattle.std.proofs.lemmas.List.{append-nil, reverse-reverse}
use Rattle.graph_search.proofs.reached.Reached.witness.Goals as goal

pub returns : goal.returns
returns c =
    let first : c.loop-node.node ≡ 0 = omega arith in
    rw (← c.self.view_is, c.reverse.ensures.items, reverse-reverse c.loop-node.labels.items)
    (rw append-nil at (c.loop-node.invariant.trace [] first))
