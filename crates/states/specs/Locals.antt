-- What a step does to its hart and to the one granule that it may touch. Where a step makes no
-- access, or none in RAM, that granule is granule 0, which stays as it is.
use Rattle.std.specs.Prelude.{◌≡◌, ℕ, List, length, slice_get, replicate, Some}
use Rattle.std.specs.Prelude.{nat_lt, if◌then◌else◌}
use Rattle.cheri_model.specs.declared.instr.Instr.{Instr}
use Rattle.cap_model.specs.values.CapValue.{CapValue}
use Rattle.cheri_model.specs.steps.Hart.{HartState}
use Rattle.cheri_model.specs.steps.HartStep.{Stepped, hart_step}
use Rattle.cheri_model.specs.steps.Memory.{granule_number, granule_at}
use Rattle.cheri_model.specs.runs.Machine.{is_running}
use Rattle.states.specs.Accesses.{accessed_address}
use Rattle.state_store.specs.Stores.{Stored, hart_at}
use Rattle.states.specs.declared.locals.LocalStep.{LocalStep}
use Rattle.states.specs.declared.steps.KnownStep.{KnownStep}
use Rattle.states.specs.Steps.{IsKnown}

-- the granule that the next step of a hart may touch, in a memory of so many
unfoldable pub touched : List Instr → ℕ → HartState → ℕ
touched program granules hart =
    let number = granule_number (accessed_address program hart) in
    if nat_lt number granules then number else 0

-- the step, in a memory that has this value everywhere
unfoldable pub local_step : List Instr → ℕ → HartState → CapValue → Stepped
local_step program granules hart value = hart_step program hart (replicate granules value)

-- what it leaves in that granule
unfoldable pub local_value : List Instr → ℕ → HartState → CapValue → CapValue
local_value program granules hart value =
    granule_at (local_step program granules hart value).memory (touched program granules hart)

-- the number for a hart that does not run
abbrev pub stopped : ℕ
stopped = 4294967295

-- the granule that a hart's next step may touch, or that there is none
abbrev pub site_of : List Instr → ℕ → HartState → ℕ
site_of program granules hart =
    if is_running hart.status then touched program granules hart else stopped

-- the step of the hart with this number, where its granule has the value with this number, and then
-- what brings the hart to its rest
pub record IsLocalStep (program : List Instr) (rests : HartState → HartState) (store : Stored)
    (hart value : ℕ) (after : LocalStep) : Type 0 where
  pub before : HartState
  pub granule : CapValue
  pub hart_is : hart_at store hart ≡ Some before
  pub value_is : slice_get store.values value ≡ Some granule
  pub hart_after :
      hart_at store after.hart
      ≡ Some (rests (local_step program store.granules before granule).hart)
  pub value_after :
      slice_get store.values after.value ≡ Some (local_value program store.granules before granule)

-- the sites of all harts, each at its rest, and steps
pub record IsTabled (program : List Instr) (rests : HartState → HartState) (store : Stored)
    (sites : List ℕ) (steps : List KnownStep) : Type 0 where
  pub even : length sites ≡ length store.harts
  pub sites_are : (id site : ℕ) → slice_get sites id ≡ Some site →
      (hart : HartState) × (hart_at store id ≡ Some hart)
      × (site ≡ site_of program store.granules hart) × (rests hart ≡ hart)
  pub steps_are : (step : KnownStep) → IsKnown steps step →
      IsLocalStep program rests store step.hart step.value step.after
