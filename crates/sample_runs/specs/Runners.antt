-- A machine that runs again and again from its opening state.
use Rattle.std.specs.Prelude.{◌≡◌, ℕ, List, map, length, Option, Some, None}
use Rattle.cheri_model.specs.steps.Hart.{HartState}
use Rattle.cheri_model.specs.runs.Image.{ImageParts, opening_hart, opening_memory}
use Rattle.cheri_model.specs.runs.Machine.{MachineState, opening_state}
use Rattle.cheri_model.specs.runs.Authority.{IsLawfulState}
use Rattle.sample_draws.specs.Priorities.{PriorityParts}
use Rattle.sample_draws.specs.Draws.{DrawParts}
use Rattle.sample_draws.specs.Orders.{Moment}
use Rattle.sample_runs.specs.Memories.{MemoryParts}

pub record RunnerParts : Type 0 where
  pub image : ImageParts
  pub harts : List HartState
  pub memory : MemoryParts

abbrev pub state_of : RunnerParts → MachineState
state_of runner = record { harts = runner.harts; memory = runner.memory.now }

abbrev pub moment_of : RunnerParts → DrawParts → Moment
moment_of runner draws = record { draws = draws; state = state_of runner }

-- The opening state is at hand: harts as they are before the first step, and a memory that was
-- opened as the image's is. All its values are lawful.
pub record IsRunner (image : ImageParts) (opened harts : List HartState) (memory : MemoryParts)
    : Type 0 where
  pub opening : opened ≡ map opening_hart image.harts
  pub memory_opening : memory.opening ≡ opening_memory image.ram image.granules
  pub count : length harts ≡ length image.harts
  pub lawful : IsLawfulState (opening_state image)

-- how many steps priorities have seen
abbrev pub steps_of : Option PriorityParts → ℕ
steps_of None = 0
steps_of (Some p) = p.steps
