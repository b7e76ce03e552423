use Rattle.std.proofs.Common.{refl}
use Rattle.graph_nodes.proofs.TaskLemmas.{sent_later}
use Rattle.graph_nodes.proofs.tasks.Task.send.Goals as goal

pub returns-clause-others : goal.returns-clause-others
returns-clause-others c = λ k other sent.
    sent_later c.args.self.now _ c.args.row.now other k c.requires.ready refl c.in_ok-extend_from_slice.ensures.items refl sent
