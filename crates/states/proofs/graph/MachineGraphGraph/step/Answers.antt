use Rattle.std.proofs.Common.{subst}
use Rattle.state_store.specs.Stores.{IsOneRow}
use Rattle.states.specs.Graphs.{GraphParts}
use Rattle.states.proofs.NodeLemmas.{state_kept, one_node}
use Rattle.states.proofs.graph.MachineGraphGraph.step.Goals as goal

pub returns-clause-kept : goal.returns-clause-kept
returns-clause-kept c n s is = state_kept c.args.self.now c.follow-leads.new.self c.follow-leads.ensures.continues n s is

pub returns-clause-one_node : goal.returns-clause-one_node
returns-clause-one_node c m n s is also =
    one_node c.follow-leads.new.self
    (subst (λ (g : GraphParts). IsOneRow g.store) c.self.view_is (λ a b t p q. c.granules-granules.ensures.one_row a b t p q))
    m n s is also
