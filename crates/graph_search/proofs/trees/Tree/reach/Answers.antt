use Rattle.std.proofs.Common.{◌≤◌, ◌<◌, length, arith}
use Rattle.graph_search.proofs.TreeLemmas.{adds_within, fits_full}
use Rattle.graph_search.proofs.trees.Tree.reach.Goals as goal

pub returns-then-len-limit-clause-added : goal.returns-then-len-limit-clause-added
returns-then-len-limit-clause-added c =
    let room : length c.args.self.now.nodes.rows < c.args.limit = omega arith in
    adds_within c.args.node.now c.args.edge c.args.limit c.args.self.now.nodes.rows c.args.self.now.edges.items
    c.add.new.self.nodes.rows c.add.new.self.edges.items c.in_ok-add.ensures.added room

pub returns-clause-added : goal.returns-clause-added
returns-clause-added c =
    let full : c.args.limit ≤ length c.args.self.now.nodes.rows = omega arith in
    rw c.is_some.ensures (fits_full c.args.node.now c.args.edge c.args.limit c.args.self.now.nodes.rows
    c.args.self.now.edges.items full c.requires.within c.find.result c.find.ensures.found c.find.ensures.absent)
