use Rattle.std.proofs.Common.{◌≡◌, ap, ◌∙◌, subst, length}
use Rattle.std.specs.Prelude.{Bool, Some}
use Rattle.std.proofs.lemmas.Result.{IfOk-weaker}
use Rattle.cheri_model.specs.runs.Image.{ImageParts}
use Rattle.cheri_model.specs.runs.Machine.{MachineState}
use Rattle.graph_search.specs.Graphs.{LeadsTo}
use Rattle.state_store.specs.Stores.{IsOneRow, Stored}
use Rattle.states.proofs.NodeLemmas.{one_node}
use Rattle.owned_search.specs.Graphs.{ForgettingParts, PlacedState, placed_in, placed_turn, state_in, turn_in}
use Rattle.owned_search.proofs.PlacedLemmas.{placed_kept, placed_leads, state_of_placed}
use Rattle.owned_search.proofs.graph.OwnedGraphGraph.step.Goals as goal

pub returns-clause-same_graph : goal.returns-clause-same_graph
returns-clause-same_graph c =
    ap (λ (i : ImageParts). placed_turn (length i.harts)) c.follow-leads.ensures.remembers.graph.graph.image

pub returns-clause-kept : goal.returns-clause-kept
returns-clause-kept c n p is = placed_kept c.args.self.now c.follow-leads.new.self c.follow-leads.ensures.remembers n p is

pub returns-clause-one_node : goal.returns-clause-one_node
returns-clause-one_node c m n p is also =
    let g = c.follow-leads.new.self in
    one_node g.graph.graph
    (subst (λ (st : Stored). IsOneRow st) (c.store.ensures.store ∙ ap (λ (q : ForgettingParts). q.graph.graph.store) c.self.view_is)
    (λ a b t v w. c.granules-granules.ensures.one_row a b t v w)) m n p.state (state_of_placed g m p is) (state_of_placed g n p also)

pub returns-clause-value : goal.returns-clause-value
returns-clause-value c =
    IfOk-weaker c.follow-leads.result
    (λ (leads : Bool). (s : MachineState) → state_in c.args.self.now c.args.node.now ≡ Some s →
    LeadsTo (state_in c.follow-leads.new.self) leads c.follow-leads.new.to (turn_in c.args.self.now s c.args.label))
    (λ (leads : Bool). (p : PlacedState) → placed_in c.args.self.now c.args.node.now ≡ Some p →
    LeadsTo (placed_in c.follow-leads.new.self) leads c.follow-leads.new.to
    (placed_turn (length c.args.self.now.graph.graph.image.harts) p c.args.label))
    (λ leads value p is.
    placed_leads c.args.self.now c.follow-leads.new.self c.follow-leads.ensures.remembers c.args.node.now c.follow-leads.new.to
    c.args.label leads p is (λ s there. value s there))
    c.follow-leads.ensures.value
