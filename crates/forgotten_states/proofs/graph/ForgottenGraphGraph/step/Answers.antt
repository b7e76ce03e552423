use Rattle.std.proofs.Common.{ap, ◌∙◌, subst}
use Rattle.state_store.specs.Stores.{IsOneRow, Stored}
use Rattle.states.proofs.NodeLemmas.{one_node, state_kept}
use Rattle.forgotten_states.specs.Graphs.{ForgottenParts}
use Rattle.forgotten_states.proofs.GraphLemmas.{turns_kept}
use Rattle.forgotten_states.proofs.graph.ForgottenGraphGraph.step.Goals as goal

pub returns-clause-same_graph : goal.returns-clause-same_graph
returns-clause-same_graph c = turns_kept c.args.self.now c.follow-leads.new.self c.follow-leads.ensures.remembers

pub returns-clause-kept : goal.returns-clause-kept
returns-clause-kept c n s is =
    state_kept c.args.self.now.graph c.follow-leads.new.self.graph c.follow-leads.ensures.remembers.graph n s is

pub returns-clause-one_node : goal.returns-clause-one_node
returns-clause-one_node c m n s is also =
    one_node c.follow-leads.new.self.graph
    (subst (λ (st : Stored). IsOneRow st) (c.store.ensures ∙ ap (λ (p : ForgottenParts). p.graph.store) c.self.view_is)
    (λ a b t p q. c.granules-granules.ensures.one_row a b t p q)) m n s is also
