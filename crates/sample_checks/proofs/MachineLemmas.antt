-- A machine that takes operations.
use Rattle.std.proofs.Common.{◌≡◌, List, map}
use Rattle.cap_model.specs.values.CapValue.{CapValue}
use Rattle.cheri_model.specs.steps.Hart.{HartState}
use Rattle.cheri_model.specs.runs.Image.{ImageParts, opening_hart, opening_memory}
use Rattle.cheri_model.specs.runs.Machine.{MachineState, opening_state}

pub is_opening : (image : ImageParts) (harts : List HartState) (memory : List CapValue)
    → harts ≡ map opening_hart image.harts → memory ≡ opening_memory image.ram image.granules
    → ◌≡◌ {A = MachineState} (record { harts = harts; memory = memory }) (opening_state image)
unfolding opening_state
is_opening image harts memory harts_are memory_is i = record { harts = harts_are i; memory = memory_is i }
