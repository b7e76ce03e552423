-- What a search for a state gives.
use Rattle.std.proofs.Common.{◌≡◌, ℕ, ◌<◌, ◌≤◌, List, [], length, sym, ◌∙◌, ap, subst, ◌⊎◌, arith}
use Rattle.std.specs.Prelude.{Option, Some, None, Bool, true, false}
use Rattle.std.proofs.lemmas.Option.{slice_get_within}
use Rattle.cheri_model.specs.declared.operation.Op.{Op}
use Rattle.cheri_model.specs.runs.Image.{ImageParts}
use Rattle.cheri_model.specs.runs.ImageRules.{is_image}
use Rattle.cheri_model.specs.runs.Machine.{MachineState, opening_state}
use Rattle.cheri_model.specs.runs.Replay.{is_legal, replayed_state}
use Rattle.explore_sights.specs.declared.sights.Sight.{Sight}
use Rattle.explore_sights.specs.Sights.{hides}
use Rattle.forgotten_turns.specs.ForgottenTurns.{HidesForgotten, PassesForgotten}
use Rattle.granule_states.specs.Graphs.{is_shared, owner_of}
use Rattle.graph_search.specs.Searches.{IsExplored}
use Rattle.graph_search.specs.Trees.{Found, edge_at}
use Rattle.graph_search.proofs.TreeLemmas.{row_of}
use Rattle.live_registers.specs.LiveSets.{IsRight, LiveSets}
use Rattle.own_granules.specs.Turns.{KeepsPassing}
use Rattle.owned_turns.specs.OwnedTurns.{owned_start, owned_turn}
use Rattle.owned_turns.proofs.SearchLemmas.{all_owned}
use Rattle.schedules.proofs.WalkLemmas.{replayed_reachable}
use Rattle.explore_turns.specs.declared.quiet.TheConstants.{MAX_QUIET_STEPS}
use Rattle.states.specs.Kept.{NonePasses}
use Rattle.states.specs.Searches.{SearchParts}
use Rattle.owned_search.specs.Graphs.{ForgettingParts, IsGraphOf, state_in}
use Rattle.owned_search.specs.Nodes.{AreAllOwned, AreNodes, AreSomeOwned, IsFirstPassing, at}
use Rattle.owned_search.specs.Sought.{AreMoreShared, IsOwnedOrderTo, IsOwnedOrderToFirst, IsOwnedSought, sized}
use Rattle.owned_search.proofs.GraphLemmas.{graph_on}
use Rattle.owned_search.proofs.NodeLemmas.{none_passes}
use Rattle.owned_search.proofs.SizedLemmas.{reached_size, sized_forgets, sized_none, unsized}

-- nodes have the numbers below how many there are
numbered : (g : ForgettingParts) (found : Found) (i : ℕ) (s : MachineState) → at g found i ≡ Some s → i < length found.nodes
numbered g found i s there = let row = row_of (state_in g) found.nodes i s there in slice_get_within found.nodes i row.0 row.1

module _ (search : SearchParts) (sees : Sight) (live : LiveSets) (shared : List Bool) (passing : MachineState → Bool)
    (g : ForgettingParts) (of : IsGraphOf search.image sees live shared g) (found : Found) (limit : ℕ)
    (are : AreNodes g found limit) (within : limit ≤ search.limit) where
  -- the nodes are those of the search's image
  explored : IsExplored (owned_turn search.image (is_shared shared) sees live) (owned_start search.image (is_shared shared) sees live)
      limit (at g found) (edge_at found.edges) (length found.nodes) found.complete
  explored =
      graph_on search.image sees live shared g of
      (λ (i : ImageParts) (x : Sight) (l : LiveSets) (bs : List Bool). IsExplored (owned_turn i (is_shared bs) x l)
      (owned_start i (is_shared bs) x l) limit (at g found) (edge_at found.edges) (length found.nodes) found.complete) are.nodes

  order_here : (s : MachineState) (order : List Op) →
      IsOwnedOrderTo g.graph.graph.image g.graph.shared g.graph.sight g.live s order →
      IsOwnedOrderTo search.image shared sees live s order
  order_here s order to =
      graph_on search.image sees live shared g of
      (λ (i : ImageParts) (x : Sight) (l : LiveSets) (bs : List Bool). IsOwnedOrderTo i bs x l s order) to

  sought : (order : Option (List Op)) (count : ℕ) (complete : Bool) → count ≡ length found.nodes →
      (complete ≡ true → found.complete ≡ true) → IsOwnedOrderToFirst search.image shared sees live (at g found) passing order →
      (order ≡ None → (found.complete ≡ true) ⊎ (limit ≡ search.limit)) →
      IsOwnedSought search sees live shared passing order count complete
  sought order count complete count_is all first whole =
      subst (λ (n : ℕ). IsOwnedSought search sees live shared passing order n complete) (sym count_is) (record {
        shared = shared;
        limit = limit;
        at = at g found;
        edge = edge_at found.edges;
        finished = found.complete;
        more = λ granule is. is;
        within = within;
        nodes = explored;
        counted = numbered g found;
        first = first;
        whole = whole;
        all = all;
      })

  pub sought_none : (count : ℕ) (complete : Bool) → count ≡ length found.nodes → (complete ≡ true → AreAllOwned g found) →
      IsFirstPassing (at g found) (length found.nodes) passing None → (found.complete ≡ true) ⊎ (limit ≡ search.limit) →
      IsOwnedSought search sees live shared passing None count complete
  sought_none count complete count_is all none whole =
      sought None count complete count_is (λ done. (all done).0) (λ i s there. none i s there) (λ same. whole)

  pub sought_some : (number : ℕ) (order : List Op) (count : ℕ) → count ≡ length found.nodes →
      IsFirstPassing (at g found) (length found.nodes) passing (Some number) →
      ((s : MachineState) → at g found number ≡ Some s →
      IsOwnedOrderTo g.graph.graph.image g.graph.shared g.graph.sight g.live s order) →
      IsOwnedSought search sees live shared passing (Some order) count false
  sought_some number order count count_is first leads =
      let meant = are.nodes.meant number first.0 in
      sought (Some order) count false count_is (λ done. absurd (cc))
      (number, meant.0, meant.1, first.1 meant.0 meant.1, first.2, order_here meant.0 order (leads meant.0 meant.1))
      (λ same. absurd (cc))

  -- the machine takes the order, and what it leaves passes
  pub found_passes : PassesForgotten live passing → (number : ℕ) (order : List Op) →
      IsFirstPassing (at g found) (length found.nodes) passing (Some number) →
      ((s : MachineState) → at g found number ≡ Some s →
      IsOwnedOrderTo g.graph.graph.image g.graph.shared g.graph.sight g.live s order) →
      (is_legal search.image (opening_state search.image) order ≡ true) × (passing (replayed_state search.image order) ≡ true)
  found_passes same number order first leads =
      let meant = are.nodes.meant number first.0 in
      let to = order_here meant.0 order (leads meant.0 meant.1) in (
        to.legal,
        sym (same (replayed_state search.image order)) ∙ (ap passing to.leads ∙ first.1 meant.0 meant.1),
      )

  -- where these are all, and none passes, no state passes that an order leaves
  pub none_found : IsRight search.image.program live → HidesForgotten live (hides sees) → AreAllOwned g found →
      KeepsPassing search.image [] (is_shared shared) (hides sees) (sized search.image passing) → PassesForgotten live passing →
      IsFirstPassing (at g found) (length found.nodes) passing None → NonePasses search.image [] passing
  none_found right hidden owned keeps same none order allowed legal =
      let formed = subst (λ (i : ImageParts). is_image i ≡ true) of.image_is are.formed in
      let owners = graph_on search.image sees live shared g of
      (λ (i : ImageParts) (x : Sight) (l : LiveSets) (bs : List Bool). AreSomeOwned i bs x l) owned.1 in
      unsized search.image passing (replayed_state search.image order)
      (reached_size search.image (is_shared shared) (owner_of owners.0) (hides sees) MAX_QUIET_STEPS formed
      (all_owned search.image (is_shared shared) sees live right hidden (owner_of owners.0) owners.1)
      (replayed_state search.image order) (replayed_reachable search.image [] order allowed legal))
      (none_passes search.image shared sees live formed right hidden owners (at g found) (explored.complete owned.0)
      (sized search.image passing) keeps (sized_forgets search.image passing live same)
      (λ i s there. sized_none search.image passing s (none i s there)) order allowed legal)

  pub count_within : (count : ℕ) → count ≡ length found.nodes → count ≤ search.limit
  count_within count is = let few = are.nodes.within in omega arith

-- what a search gives that begins with more shared granules
pub sought_more : (search : SearchParts) (sees : Sight) (live : LiveSets) (before after : List Bool) (passing : MachineState → Bool)
    (order : Option (List Op)) (count : ℕ) (complete : Bool) → AreMoreShared before after →
    IsOwnedSought search sees live after passing order count complete →
    IsOwnedSought search sees live before passing order count complete
sought_more search sees live before after passing order count complete more is = record {
  shared = is.shared;
  limit = is.limit;
  at = is.at;
  edge = is.edge;
  finished = is.finished;
  more = λ granule shared. is.more granule (more granule shared);
  within = is.within;
  nodes = is.nodes;
  counted = is.counted;
  first = is.first;
  whole = is.whole;
  all = is.all;
}
