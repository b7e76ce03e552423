use Rattle.std.proofs.Common.{◌≡◌, length, sym, rules}
use Rattle.graph_search.proofs.search.expand_all.Goals as goal

pub returns-then-place-len-clause-after : goal.returns-then-place-len-clause-after
returns-then-place-len-clause-after g c =
    let at : c.in_ok-place.place.from ≡ length c.take_rounds.new.tree.nodes.rows = search rules in
    let label = c.in_ok-place.ensures.ended at in
    rw (sym at, sym label) c.in_ok-place.ensures.after
