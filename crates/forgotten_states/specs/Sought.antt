-- What a search for a state finds where harts forget the registers that don't matter, and harts of
-- one group stand in order.
use Rattle.std.specs.Prelude.{◌≡◌, ℕ, ◌<◌, ◌≤◌, ◌⊎◌, List, [], Option, Some, None, Bool, true, false}
use Rattle.cheri_model.specs.declared.operation.Op.{Op}
use Rattle.cheri_model.specs.runs.Image.{ImageParts}
use Rattle.cheri_model.specs.runs.Machine.{MachineState, opening_state}
use Rattle.cheri_model.specs.runs.Replay.{is_legal, replayed_state}
use Rattle.explore_sights.specs.declared.sights.Sight.{Sight}
use Rattle.explore_turns.specs.Orders.{order_of_turns}
use Rattle.forgotten_runs.specs.ForgottenRuns.{forgotten_state}
use Rattle.forgotten_states.specs.Nodes.{NonePassesBefore}
use Rattle.graph_search.specs.declared.edges.Edge.{Edge}
use Rattle.graph_search.specs.Searches.{IsExplored}
use Rattle.graph_search.specs.Walks.{IsWitness}
use Rattle.hart_order.specs.GroupedTurns.{grouped_start, grouped_turn, keeps_number}
use Rattle.hart_order.specs.GroupedTurns.{machine_labels}
use Rattle.hart_symmetry.specs.Renaming.{IsRenaming}
use Rattle.live_registers.specs.LiveSets.{LiveSets}
use Rattle.schedules.specs.Schedules.{AreAllowed, AreLabelsOf}
use Rattle.states.specs.Searches.{SearchParts}

-- The witness of a node as an order: of the turns that lead to the node the fewest, and of those
-- the least; of these turns each step, by the numbers that the harts have in the machine. The
-- machine takes it, and the state that it leaves forgets to be that of the node, but for the order
-- of harts of one group.
pub record IsOrderTo (image : ImageParts) (sight : Sight) (live : LiveSets) (groups : List ℕ)
    (state : MachineState) (order : List Op) : Type 0 where
  pub labels : List ℕ
  pub least :
      IsWitness (grouped_turn image sight live groups) (grouped_start image sight live groups)
      state labels
  pub ops : List Op
  pub operations : AreLabelsOf image [] (machine_labels image sight live groups labels) ops
  pub turns : order ≡ order_of_turns image [] sight ops
  pub allowed : AreAllowed [] order
  pub legal : is_legal image (opening_state image) order ≡ true
  pub leads :
      IsRenaming (keeps_number groups) (forgotten_state live (replayed_state image order)) state

-- the order is that of the first node that passes; there is none where none passes
abbrev pub IsOrderToFirst : ImageParts → Sight → LiveSets → List ℕ → (ℕ → Option MachineState)
    → (MachineState → Bool) → Option (List Op) → Type 0
IsOrderToFirst image sight live groups at passing None =
    (i : ℕ) (s : MachineState) → at i ≡ Some s → passing s ≡ false
IsOrderToFirst image sight live groups at passing (Some order) =
    (i : ℕ) × (s : MachineState) × (at i ≡ Some s) × (passing s ≡ true)
    × NonePassesBefore at passing i × IsOrderTo image sight live groups s order

-- What a search gives, for a question that sees this, to which these registers matter, and for
-- which harts of these groups may change places: just so many nodes were kept, the first ones in
-- the order of their witnesses, or all; and the order leads to the first of them that passes. Where
-- none passes these are all, or as many as may be kept.
pub record IsSoughtBy (search : SearchParts) (sees : Sight) (live : LiveSets) (groups : List ℕ)
    (passing : MachineState → Bool) (order : Option (List Op)) (count : ℕ) (complete : Bool)
    : Type 0 where
  pub limit : ℕ
  pub at : ℕ → Option MachineState
  pub edge : ℕ → Edge
  pub within : limit ≤ search.limit
  pub nodes :
      IsExplored (grouped_turn search.image sees live groups)
      (grouped_start search.image sees live groups) limit at edge count complete
  pub counted : (i : ℕ) (s : MachineState) → at i ≡ Some s → i < count
  pub first : IsOrderToFirst search.image sees live groups at passing order
  pub whole : order ≡ None → (complete ≡ true) ⊎ (limit ≡ search.limit)
