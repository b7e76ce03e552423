use Rattle.std.proofs.Common.{sym, ap, ◌∙◌, subst}
use Rattle.std.specs.Prelude.{IfSome}
use Rattle.std.proofs.lemmas.Result.{IfOk-weaker}
use Rattle.cheri_model.specs.runs.Machine.{opening_state}
use Rattle.granule_states.specs.Graphs.{GranuleParts}
use Rattle.owned_search.specs.Sought.{AreMoreShared}
use Rattle.owned_search.proofs.NodeLemmas.{granule_nodes, scanned}
use Rattle.owned_search.proofs.nodes.Nodes.into_judged.Goals as goal

pub judge-requires-clause-nodes : goal.judge-requires-clause-nodes
judge-requires-clause-nodes c =
    granule_nodes c.args.self.graph c.args.self.reached c.args.self.limit c.requires.nodes c.into_machine-graph.result
    c.into_machine-graph.ensures

pub judge-requires-clause-opening : goal.judge-requires-clause-opening
judge-requires-clause-opening c =
    c.requires.opening ∙ ap (λ (h : GranuleParts). opening_state h.graph.image) (sym c.into_machine-graph.ensures)

pub returns-clause-more : goal.returns-clause-more
returns-clause-more c =
    IfOk-weaker c.judge.result _ _
    (λ judged told.
    subst (λ (h : GranuleParts). IfSome judged.more (λ more. AreMoreShared h.shared more.items)) c.into_machine-graph.ensures told)
    c.judge.ensures.more

pub returns-clause-all : goal.returns-clause-all
returns-clause-all c =
    IfOk-weaker c.judge.result _ _
    (λ judged told holds.
    scanned c.args.self.graph c.args.self.reached c.args.self.limit c.requires.nodes c.into_machine-graph.result
    c.into_machine-graph.ensures (told holds))
    c.judge.ensures.all
