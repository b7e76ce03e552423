use Rattle.std.proofs.Common.{◌≡◌, rules}
use Rattle.std.specs.Prelude.{slice_get, Some}
use Rattle.graph_loops.proofs.EdgeLemmas.{meant_row}
use Rattle.graph_loops.proofs.edges.follow.Goals as goal

pub step-requires-clause-meant : goal.step-requires-clause-meant
step-requires-clause-meant g c =
    let here : slice_get c.args.found.now.nodes c.args.node ≡ Some c.read.new.node = search rules in
    meant_row (g.G.Graph.meaning c.args.graph.now) c.args.found.now.nodes c.args.node c.read.new.node
    c.requires.meant c.requires.there here
