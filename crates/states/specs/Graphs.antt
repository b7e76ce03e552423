-- The graph of a machine's states, whose nodes are rows of numbers.
use Rattle.std.specs.Prelude.{◌≡◌, ◌+◌, ◌*◌, ◌≤◌, ◌==◌, ℕ, List, length, Option, Some, None}
use Rattle.std.specs.Prelude.{if◌then◌else◌, true}
use Rattle.cap_model.specs.values.CapValue.{CapValue}
use Rattle.cheri_model.specs.steps.Hart.{HartState}
use Rattle.cheri_model.specs.runs.Image.{ImageParts}
use Rattle.cheri_model.specs.runs.ImageRules.{is_image}
use Rattle.cheri_model.specs.runs.Machine.{MachineState, is_running}
use Rattle.explore_sights.specs.declared.sights.Sight.{Sight}
use Rattle.explore_turns.specs.Turns.{resting, rest_by, turn_by}
use Rattle.schedules.specs.declared.ranges.SweepRange.{SweepRange}
use Rattle.state_store.specs.Stores.{Stored, state_of, hart_at, Keeps}
use Rattle.states.specs.declared.steps.KnownStep.{KnownStep}
use Rattle.states.specs.Locals.{IsTabled}

-- what is seen of a graph
pub record GraphParts : Type 0 where
  pub image : ImageParts
  pub sweeps : List SweepRange
  pub sight : Sight
  pub store : Stored

-- the hart at its rest
abbrev pub rests_in : GraphParts → HartState → HartState
rests_in graph = resting graph.image graph.sweeps graph.sight

-- the state with each hart at its rest, and where a label's turn leads
abbrev pub rest_in : GraphParts → MachineState → MachineState
rest_in graph = rest_by graph.image graph.sweeps graph.sight

abbrev pub turn_in : GraphParts → MachineState → ℕ → Option MachineState
turn_in graph = turn_by graph.image graph.sweeps graph.sight

-- the state of a row with as many harts as the image
unfoldable pub state_in : GraphParts → List ℕ → Option MachineState
state_in graph row =
    if length row == length graph.image.harts + 1 then state_of graph.store row else None

-- the graph is of the same image, and nothing got another number
pub record Continues (old new : GraphParts) : Type 0 where
  pub image : new.image ≡ old.image
  pub sweeps : new.sweeps ≡ old.sweeps
  pub sight : new.sight ≡ old.sight
  pub keeps : Keeps old.store new.store

-- there is a hart with this number, and it runs
abbrev pub Runs : Stored → ℕ → Type 0
Runs store id =
    (hart : HartState) × (hart_at store id ≡ Some hart) × (is_running hart.status ≡ true)

-- What a graph keeps: memories are as large as the image's RAM, and tables are right.
pub record IsGraph (image : ImageParts) (sweeps : List SweepRange) (sight : Sight) (store : Stored)
    (sites : List ℕ) (steps : List KnownStep) (ram : List CapValue) (row : List ℕ) : Type 0 where
  pub formed : is_image image ≡ true
  pub few : length sweeps ≤ 8
  pub granules : 16 * store.granules ≡ image.ram
  pub ram_size : length ram ≡ store.granules
  pub row_size : length row ≡ store.granules
  pub tabled : IsTabled image.program (resting image sweeps sight) store sites steps
