use Rattle.graph_nodes.proofs.JoinLemmas.{not_joined, one_joined}
use Rattle.graph_nodes.proofs.nodes.Nodes.join_one.Goals as goal

pub returns-then-not-leads-clause-joined : goal.returns-then-not-leads-clause-joined
returns-then-not-leads-clause-joined c = rw c.if-not-leads.true (not_joined c.args.self.now.rows)

pub returns-clause-joined : goal.returns-clause-joined
returns-clause-joined c =
    rw c.if-not-leads.false (one_joined c.args.self.now c.insert.new.self c.args.row.now c.in_ok-insert.field-0
    c.len-before.result c.len.result c.in_ok-insert.ensures.interned c.len.ensures.distinct c.len-before.ensures.count
    c.len.ensures.count)
