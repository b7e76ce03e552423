-- The state that a row means.
use Rattle.std.specs.Prelude.{[], Option, Some, None}
use Rattle.cheri_model.specs.runs.Machine.{MachineState}

-- one of nothing where it means none
abbrev pub state_meant : Option MachineState → MachineState
state_meant (Some s) = s
state_meant None = record { harts = []; memory = [] }
