-- The graph of a machine's states in which each hart forgets the registers that don't matter, and
-- harts of one group stand in order.
use Rattle.std.specs.Prelude.{◌≡◌, ℕ, ◌≤◌, List, [], length, slice_get, slice_index_or}
use Rattle.std.specs.Prelude.{Bool, true, false, Option, Some, None}
use Rattle.cheri_model.specs.runs.Machine.{MachineState}
use Rattle.cheri_model.specs.steps.Hart.{HartState}
use Rattle.explore_sights.specs.Sights.{hides}
use Rattle.forgotten_runs.specs.ForgottenRuns.{forgotten_state}
use Rattle.forgotten_turns.specs.ForgottenTurns.{HidesForgotten}
use Rattle.graph_merging.specs.Merging.{merged}
use Rattle.hart_order.specs.Arrangements.{arranged_state, place_in}
use Rattle.live_registers.specs.LiveSets.{IsRight, LiveSets, forgotten_hart}
use Rattle.state_store.specs.Stores.{Stored, hart_at}
use Rattle.states.specs.Graphs.{Continues, GraphParts}
use Rattle.states.specs.Graphs as plain

-- what is seen of it: the registers that matter, the group of each hart, and the graph in which no
-- hart forgets
pub record ForgottenParts : Type 0 where
  pub live : LiveSets
  pub groups : List ℕ
  pub graph : GraphParts

-- the state that a row of numbers means
abbrev pub state_in : ForgottenParts → List ℕ → Option MachineState
state_in parts = plain.state_in parts.graph

-- where a label's turn leads, after which each hart forgets; and then harts are put in order
abbrev pub forgotten_in : ForgottenParts → MachineState → ℕ → Option MachineState
forgotten_in parts = merged (plain.turn_in parts.graph) (forgotten_state parts.live)

abbrev pub turn_in : ForgottenParts → MachineState → ℕ → Option MachineState
turn_in parts = merged (forgotten_in parts) (arranged_state parts.groups)

-- The places of harts are those in which they stood, in the order in which the harts of a state are
-- put.
abbrev pub AreMoved : List ℕ → MachineState → List ℕ → List ℕ → Type 0
AreMoved groups state stood places = (i : ℕ) → slice_index_or places i i
    ≡ slice_index_or stood (place_in groups state i) (place_in groups state i)

-- A turn leads to the state of this row, in which its harts are put in order, and their places with
-- them; or it leads nowhere.
abbrev pub LeadsInOrder : ForgottenParts → Bool → List ℕ → List ℕ → List ℕ → Option MachineState
    → Type 0
LeadsInOrder parts true row stood places end =
    (s : MachineState) × (end ≡ Some s)
    × (state_in parts row ≡ Some (arranged_state parts.groups s))
    × AreMoved parts.groups s stood places
LeadsInOrder parts false row stood places end = end ≡ None

-- the numbers of a hart and of what it forgets to be
pub record IsForgottenNumber (live : LiveSets) (store : Stored) (id after : ℕ) : Type 0 where
  pub hart : HartState
  pub before : hart_at store id ≡ Some hart
  pub there : hart_at store after ≡ Some (forgotten_hart live hart)

-- the same of all numbers that are known, each in the place of the hart's number
abbrev pub AreForgottenNumbers : LiveSets → Stored → List (Option ℕ) → Type 0
AreForgottenNumbers live store known = (id after : ℕ) → slice_get known id ≡ Some (Some after) →
    IsForgottenNumber live store id after

-- What the graph keeps: the registers are those that matter in its program, nothing is swept, what
-- is seen is nothing that is forgotten, there are at most 8 harts, and the numbers that are known
-- are right.
pub record IsForgetting (live : LiveSets) (graph : GraphParts) (known : List (Option ℕ)) : Type 0
  where
    pub right : IsRight graph.image.program live
    pub hidden : HidesForgotten live (hides graph.sight)
    pub unswept : graph.sweeps ≡ []
    pub few : length graph.image.harts ≤ 8
    pub numbers : AreForgottenNumbers live graph.store known

-- the same registers matter, the groups are the same, and the graph learned more
pub record Remembers (old new : ForgottenParts) : Type 0 where
  pub live : new.live ≡ old.live
  pub groups : new.groups ≡ old.groups
  pub graph : Continues old.graph new.graph
