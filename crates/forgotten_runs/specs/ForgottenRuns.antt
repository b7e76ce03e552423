-- Machines whose harts forget the registers that don't matter to them.
use Rattle.std.specs.Prelude.{Bool, true, ◌&&◌, List, [], ◌∷◌, map}
use Rattle.cheri_model.specs.declared.operation.Op.{Op}
use Rattle.cheri_model.specs.runs.Image.{ImageParts}
use Rattle.cheri_model.specs.runs.Machine.{MachineState, may_take, state_after_one}
use Rattle.live_registers.specs.LiveSets.{LiveSets, forgotten_hart}

-- the state in which each hart has forgotten; memory is as it is
unfoldable pub forgotten_state : LiveSets → MachineState → MachineState
forgotten_state live state = record state { harts = map (forgotten_hart live) state.harts }

-- the state after an operation, in which each hart then forgets
unfoldable pub forgotten_after : LiveSets → ImageParts → MachineState → Op → MachineState
forgotten_after live image state op = forgotten_state live (state_after_one image state op)

-- the state after an order, on whose way each hart forgets after each operation
unfoldable pub forgotten_run : LiveSets → ImageParts → MachineState → List Op → MachineState
forgotten_run live image state [] = state
forgotten_run live image state (op ∷ order) =
    forgotten_run live image (forgotten_after live image state op) order

-- such an order is legal where each operation may be taken in its turn
unfoldable pub is_legal_run : LiveSets → ImageParts → MachineState → List Op → Bool
is_legal_run live image state [] = true
is_legal_run live image state (op ∷ order) =
    may_take state op && is_legal_run live image (forgotten_after live image state op) order
