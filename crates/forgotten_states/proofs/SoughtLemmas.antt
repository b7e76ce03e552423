-- What a search for a state gives.
use Rattle.std.proofs.Common.{◌≡◌, ℕ, ◌<◌, ◌≤◌, List, length, sym, subst, ◌⊎◌, arith}
use Rattle.std.specs.Prelude.{Option, Some, None, Bool, true}
use Rattle.std.proofs.lemmas.Option.{slice_get_within}
use Rattle.cheri_model.specs.declared.operation.Op.{Op}
use Rattle.cheri_model.specs.runs.Machine.{MachineState, opening_state}
use Rattle.cheri_model.specs.runs.Replay.{is_legal, replayed_state}
use Rattle.explore_sights.specs.declared.sights.Sight.{Sight}
use Rattle.forgotten_turns.specs.ForgottenTurns.{PassesForgotten}
use Rattle.graph_search.specs.Trees.{Found, edge_at}
use Rattle.graph_search.proofs.TreeLemmas.{row_of}
use Rattle.hart_order.specs.GroupedTurns.{keeps_number}
use Rattle.hart_symmetry.specs.Renaming.{PassesRenamed}
use Rattle.live_registers.specs.LiveSets.{LiveSets}
use Rattle.states.specs.Searches.{SearchParts}
use Rattle.forgotten_states.specs.Graphs.{ForgottenParts, state_in}
use Rattle.forgotten_states.specs.Nodes.{AreNodes, IsFirstPassing, NonePassesBefore, at}
use Rattle.forgotten_states.specs.Sought.{IsOrderTo, IsOrderToFirst, IsSoughtBy}
use Rattle.forgotten_states.proofs.SurveyLemmas.{order_passes}

-- no node comes before the first
pub none_before : (nodes : ℕ → Option MachineState) (passing : MachineState → Bool) → NonePassesBefore nodes passing 0
none_before nodes passing i s below there = absurd (omega arith)

-- nodes have the numbers below how many there are
numbered : (g : ForgottenParts) (found : Found) (i : ℕ) (s : MachineState) → at g found i ≡ Some s → i < length found.nodes
numbered g found i s there = let row = row_of (state_in g) found.nodes i s there in slice_get_within found.nodes i row.0 row.1

module _ (search : SearchParts) (sees : Sight) (live : LiveSets) (groups : List ℕ) (passing : MachineState → Bool)
    (g : ForgottenParts) (found : Found) (limit : ℕ) (are : AreNodes search.image sees live groups g found limit)
    (within : limit ≤ search.limit) where
  sought : (order : Option (List Op)) (count : ℕ) (complete : Bool) → count ≡ length found.nodes → complete ≡ found.complete →
      IsOrderToFirst search.image sees live groups (at g found) passing order →
      (order ≡ None → (found.complete ≡ true) ⊎ (limit ≡ search.limit)) →
      IsSoughtBy search sees live groups passing order count complete
  sought order count complete count_is complete_is first whole =
      let made : IsSoughtBy search sees live groups passing order (length found.nodes) found.complete = record {
        limit = limit;
        at = at g found;
        edge = edge_at found.edges;
        within = within;
        nodes = are.nodes;
        counted = numbered g found;
        first = first;
        whole = whole;
      } in
      subst (λ (n : ℕ). IsSoughtBy search sees live groups passing order n complete) (sym count_is)
      (subst (λ (b : Bool). IsSoughtBy search sees live groups passing order (length found.nodes) b) (sym complete_is) made)

  pub sought_none : (count : ℕ) (complete : Bool) → count ≡ length found.nodes → complete ≡ found.complete →
      IsFirstPassing (at g found) (length found.nodes) passing None →
      (found.complete ≡ true) ⊎ (limit ≡ search.limit) →
      IsSoughtBy search sees live groups passing None count complete
  sought_none count complete count_is complete_is none whole =
      sought None count complete count_is complete_is (λ i s there. none i s there) (λ same. whole)

  pub sought_some : (number : ℕ) (order : List Op) (count : ℕ) (complete : Bool) → count ≡ length found.nodes →
      complete ≡ found.complete → IsFirstPassing (at g found) (length found.nodes) passing (Some number) →
      ((s : MachineState) → at g found number ≡ Some s → IsOrderTo search.image sees live groups s order) →
      IsSoughtBy search sees live groups passing (Some order) count complete
  sought_some number order count complete count_is complete_is first leads =
      let meant = are.nodes.meant number first.0 in
      sought (Some order) count complete count_is complete_is
      (number, meant.0, meant.1, first.1 meant.0 meant.1, first.2, leads meant.0 meant.1) (λ same. absurd (cc))

  -- the machine takes the order, and what it leaves passes
  pub found_passes : PassesForgotten live passing → PassesRenamed (keeps_number groups) passing → (number : ℕ) (order : List Op) →
      IsFirstPassing (at g found) (length found.nodes) passing (Some number) →
      ((s : MachineState) → at g found number ≡ Some s → IsOrderTo search.image sees live groups s order) →
      (is_legal search.image (opening_state search.image) order ≡ true) × (passing (replayed_state search.image order) ≡ true)
  found_passes same renamed number order first leads =
      let meant = are.nodes.meant number first.0 in
      let to = leads meant.0 meant.1 in (
        to.legal,
        order_passes search.image sees live groups meant.0 passing order to same renamed (first.1 meant.0 meant.1),
      )

  pub count_within : (count : ℕ) → count ≡ length found.nodes → count ≤ search.limit
  count_within count is = let few = are.nodes.within in omega arith
