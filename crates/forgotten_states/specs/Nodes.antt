-- The nodes that a search kept: the first ones in the order of their witnesses.
use Rattle.std.specs.Prelude.{◌≡◌, ℕ, ◌+◌, ◌<◌, ◌≤◌, List, length, Option, Some, None}
use Rattle.std.specs.Prelude.{Bool, true, false}
use Rattle.cheri_model.specs.runs.Image.{ImageParts}
use Rattle.cheri_model.specs.runs.Machine.{MachineState}
use Rattle.explore_sights.specs.declared.sights.Sight.{Sight}
use Rattle.forgotten_states.specs.Graphs.{ForgottenParts, state_in, turn_in}
use Rattle.graph_search.specs.Searches.{IsExplored, Reaches}
use Rattle.graph_search.specs.Trees.{Found, edge_at, state_at}
use Rattle.hart_order.specs.GroupedTurns.{grouped_start, grouped_turn}
use Rattle.live_registers.specs.LiveSets.{LiveSets}

-- the state of the node with a number
abbrev pub at : ForgottenParts → Found → ℕ → Option MachineState
at graph found = state_at (state_in graph) found.nodes

-- What is kept: a graph of these turns, in whose store the states are; the first nodes that they lead
-- to, or all; and where the search stands.
pub record AreNodes (image : ImageParts) (sight : Sight) (live : LiveSets) (groups : List ℕ)
    (graph : ForgottenParts) (found : Found) (limit : ℕ) : Type 0 where
  pub edges : turn_in graph ≡ grouped_turn image sight live groups
  pub harts : length graph.graph.image.harts ≡ length image.harts
  pub few : length image.harts ≤ 8
  pub nodes :
      IsExplored (grouped_turn image sight live groups) (grouped_start image sight live groups)
      limit (at graph found) (edge_at found.edges) (length found.nodes) found.complete
  pub wide : found.width ≡ length image.harts + 1
  pub stands : Reaches (turn_in graph) (state_in graph) limit
      (length found.nodes) found.nodes found.edges found.cut

-- the same of some turns
abbrev pub AreSomeNodes : ForgottenParts → Found → ℕ → Type 0
AreSomeNodes graph found limit = (image : ImageParts) × (sight : Sight) × (live : LiveSets)
    × (groups : List ℕ) × AreNodes image sight live groups graph found limit

-- what was kept before is kept, of the same turns
abbrev pub KeepsTurns : ForgottenParts → Found → ℕ → ForgottenParts → Found → ℕ → Type 0
KeepsTurns graph found limit graph' found' limit' =
    (image : ImageParts) (sight : Sight) (live : LiveSets) (groups : List ℕ) →
    AreNodes image sight live groups graph found limit →
    AreNodes image sight live groups graph' found' limit'

-- no node before this one passes
abbrev pub NonePassesBefore : (ℕ → Option MachineState) → (MachineState → Bool) → ℕ → Type 0
NonePassesBefore at passing number =
    (i : ℕ) (s : MachineState) → i < number → at i ≡ Some s → passing s ≡ false

-- the first node that passes, if any does
abbrev pub IsFirstPassing : (ℕ → Option MachineState) → ℕ → (MachineState → Bool) → Option ℕ
    → Type 0
IsFirstPassing at count passing None =
    (i : ℕ) (s : MachineState) → at i ≡ Some s → passing s ≡ false
IsFirstPassing at count passing (Some number) =
    (number < count) × ((s : MachineState) → at number ≡ Some s → passing s ≡ true)
    × NonePassesBefore at passing number
