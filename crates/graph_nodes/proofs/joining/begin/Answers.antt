use Rattle.std.proofs.Common.{length}
use Rattle.graph_nodes.specs.Joined.{targets_of}
use Rattle.graph_nodes.specs.Parted.{nodes_in}
use Rattle.graph_nodes.specs.declared.joining.Stage.TheVariants.{Begun}
use Rattle.graph_nodes.proofs.StageLemmas.{of_stage}
use Rattle.graph_nodes.proofs.joining.begin.Goals as goal

pub returns : goal.returns
returns g c =
    of_stage g.C.Crew.is_of (Begun _) (nodes_in c.args.parted)
    (targets_of c.args.parted.width c.args.leads.now c.args.rows.now (length c.args.leads.now)) (record {
      tasks = c.send.new.self.tasks.items;
      begun = c.in_ok-begun.ensures;
      whole = c.in_ok-sent.ensures.whole;
      same = c.in_ok-sent.ensures.same_nodes;
      sent = c.in_ok-sent.ensures.sent;
    })
