-- What a view shows of a machine's state.
use Rattle.cheri_model.specs.runs.Machine.{MachineState}
use Rattle.hart.specs.declared.view.View.{View}

abbrev pub state_of : View → MachineState
state_of view = record { harts = view.harts.now; memory = view.ram.now }
