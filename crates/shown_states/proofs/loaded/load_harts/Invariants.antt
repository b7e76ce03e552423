-- the harts so far are the state's
use Rattle.std.proofs.Common.{◌≡◌, take}
use Rattle.std.specs.Prelude.{Some}
use Rattle.cheri_model.specs.runs.Machine.{MachineState}
use Rattle.state_store.specs.Stores.{state_of}
use Rattle.shown_states.proofs.loaded.load_harts.Given as goal

abbrev pub invariant-loop-number : goal.invariant-loop-number
invariant-loop-number l =
    (s : MachineState) → state_of l.state.store.now l.state.row.now ≡ Some s →
    take l.number l.harts ≡ take l.number s.harts
