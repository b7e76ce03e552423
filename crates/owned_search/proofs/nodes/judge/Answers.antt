use Rattle.std.proofs.Common.{ap, sym, ◌∙◌, subst}
use Rattle.std.specs.Prelude.{IfSome}
use Rattle.cheri_model.specs.runs.Machine.{opening_state}
use Rattle.granule_states.specs.Graphs.{GranuleParts}
use Rattle.owned_search.specs.Nodes.{AreGranuleNodes, IsScanned}
use Rattle.owned_search.specs.Sought.{AreMoreShared}
use Rattle.owned_search.proofs.nodes.judge.Goals as goal

-- what was noted changes nothing of the graph
pub is_whole-requires : goal.is_whole-requires
is_whole-requires c =
    record {
      nodes = subst (λ (h : GranuleParts). AreGranuleNodes h c.args.reached.now) (sym c.note_nodes.ensures) c.requires.nodes;
      opening = c.requires.opening ∙ ap (λ (h : GranuleParts). opening_state h.graph.image) (sym c.note_nodes.ensures);
    }

pub returns-then-is_some-clause-more : goal.returns-then-is_some-clause-more
returns-then-is_some-clause-more c =
    subst (λ (h : GranuleParts). IfSome c.in_ok-more.more (λ more. AreMoreShared h.shared more.items)) c.note_nodes.ensures
    c.in_ok-more.ensures

pub returns-clause-all : goal.returns-clause-all
returns-clause-all c holds =
    subst (λ (h : GranuleParts). IsScanned h c.args.reached.now) c.note_nodes.ensures (c.in_ok-complete.ensures holds)
