-- the granules so far are the state's
use Rattle.std.proofs.Common.{◌≡◌, ◌+◌, ◌*◌, length, take}
use Rattle.std.specs.Prelude.{Some}
use Rattle.cheri_model.specs.runs.Machine.{MachineState}
use Rattle.state_store.specs.Stores.{state_of}
use Rattle.shown_states.proofs.loaded.load_ram.Given as goal

abbrev pub invariant-loop-number : goal.invariant-loop-number
invariant-loop-number l = record {
  addr : l.addr ≡ 2147483648 + 16 * l.number;
  size : length l.ram ≡ length l.fn.ram;
  loaded : (s : MachineState) → state_of l.state.store.now l.state.row.now ≡ Some s →
      take l.number l.ram ≡ take l.number s.memory;
}
