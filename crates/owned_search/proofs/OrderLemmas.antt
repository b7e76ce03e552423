-- The order of the turns that lead to a node.
use Rattle.std.proofs.Common.{◌≡◌, ℕ, ◌<◌, List, [], reverse, ap, sym, ◌∙◌, subst}
use Rattle.std.specs.Prelude.{Some, slice_get}
use Rattle.std.proofs.lemmas.List.{reverse-reverse}
use Rattle.cheri_model.specs.declared.operation.Op.{Op}
use Rattle.cheri_model.specs.runs.Machine.{MachineState, opening_state}
use Rattle.cheri_model.specs.runs.Replay.{replayed_state}
use Rattle.explore_sights.specs.Sights.{hides}
use Rattle.explore_turns.specs.declared.quiet.TheConstants.{MAX_QUIET_STEPS}
use Rattle.forgotten_runs.specs.ForgottenRuns.{forgotten_state}
use Rattle.forgotten_turns.specs.ForgottenTurns.{HidesForgotten}
use Rattle.granule_states.specs.Graphs.{is_shared}
use Rattle.granule_states.specs.Graphs as granules
use Rattle.granule_states.specs.Orders.{order_in, steps_of}
use Rattle.granule_states.proofs.OrderLemmas.{allowed_steps, labels_are, walk_low}
use Rattle.graph_search.specs.Trees.{Found, IsTrace, edge_at}
use Rattle.graph_search.specs.Walks.{IsWalk, IsWitness}
use Rattle.live_registers.specs.LiveSets.{IsRight}
use Rattle.own_granules.proofs.HeldLemmas.{order_leads}
use Rattle.owned_turns.proofs.SearchLemmas.{walk_found}
use Rattle.schedules.specs.Schedules.{AreAllowed}
use Rattle.schedules.proofs.WalkLemmas.{walk_legal}
use Rattle.owned_search.specs.Graphs.{ForgettingParts, start_in, turn_in}
use Rattle.owned_search.specs.Nodes.{AreNodes, at, harts_in}
use Rattle.owned_search.specs.Sought.{IsOwnedOrderTo}

module _ (g : ForgettingParts) (found : Found) (limit : ℕ) (are : AreNodes g found limit)
    (right : IsRight g.graph.graph.image.program g.live) (hidden : HidesForgotten g.live (hides g.graph.sight))
    (number : ℕ) (s : MachineState) (there : at g found number ≡ Some s) (labels : List ℕ)
    (trace : IsTrace (edge_at found.edges) number (reverse labels)) where
  least : IsWitness (turn_in g) (start_in g) s labels
  least =
      subst (λ (ls : List ℕ). IsWitness (turn_in g) (start_in g) s ls) (reverse-reverse labels)
      (are.nodes.witnessed number s (reverse labels) there trace)

  -- the labels are a walk of turns after which no hart forgets
  own : (t : MachineState) × IsWalk (granules.turn_in g.graph) (granules.start_in g.graph) labels t × (forgotten_state g.live t ≡ s)
  own = walk_found g.graph.graph.image (is_shared g.graph.shared) g.graph.sight g.live right hidden labels s least.0

  pub labels_low : (i l : ℕ) → slice_get labels i ≡ Some l → l < harts_in g
  labels_low i l there = walk_low g.graph (granules.start_in g.graph) own.0 labels own.1 i l there

  pub order_made : (order : List Op) → order ≡ steps_of (order_in g.graph labels) →
      IsOwnedOrderTo g.graph.graph.image g.graph.shared g.graph.sight g.live s order
  unfolding replayed_state
  order_made order made =
      let image = g.graph.graph.image in
      let walk = order_leads image [] (is_shared g.graph.shared) (hides g.graph.sight) MAX_QUIET_STEPS labels own.0 own.1 in
      let legal = walk_legal image [] (opening_state image) own.0 (order_in g.graph labels) walk in
      let same : legal.0 ≡ order = labels_are image (order_in g.graph labels) legal.0 legal.1 ∙ sym made in
      subst (λ (o : List Op). IsOwnedOrderTo image g.graph.shared g.graph.sight g.live s o) same (record {
        labels = labels;
        least = least;
        steps = same ∙ made;
        allowed = subst (λ (o : List Op). AreAllowed [] o) (sym (same ∙ made)) (allowed_steps (order_in g.graph labels));
        legal = legal.2;
        leads = ap (forgotten_state g.live) legal.3 ∙ own.2;
      })
