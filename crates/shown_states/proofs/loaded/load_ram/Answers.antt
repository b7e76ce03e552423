use Rattle.std.proofs.Common.{◌<◌, length, arith, ◌∙◌}
use Rattle.reports.proofs.JsonParts.{memory_fits}
use Rattle.states.proofs.TakenLemmas.{granule_fits}
use Rattle.shown_states.proofs.LoadLemmas.{next_granule, stored_size, all_loaded, memory_size}
use Rattle.shown_states.proofs.loaded.load_ram.Goals as goal

pub store_cap-requires : goal.store_cap-requires
store_cap-requires c =
    let size = c.loop-number.invariant.size in
    granule_fits c.loop-number.ram c.loop-number.number c.loop-number.addr (omega arith) c.loop-number.invariant.addr

pub overflow_add-addr : goal.overflow_add-addr
overflow_add-addr c =
    let most = memory_fits c.args.ram.now c.granule_count-count.ensures.memory in
    let at = c.loop-number.invariant.addr in
    omega arith

pub loop-number-preserved : goal.loop-number-preserved
loop-number-preserved c =
    let inv = c.loop-number.invariant in
    let size = inv.size in
    let at = inv.addr in
    let within : c.loop-number.number < length c.loop-number.ram = omega arith in
    record {
      addr = omega arith;
      size = rw c.store_cap.ensures (stored_size _ _ _ ∙ inv.size);
      loaded = λ s is.
          let whole = memory_size c.args.state.store.now c.args.state.row.now s is in
          let there : c.loop-number.number < length s.memory = omega arith in
          rw c.store_cap.ensures
          (next_granule c.loop-number.ram s.memory c.loop-number.number c.loop-number.addr c.granule.result inv.addr within there
          (c.granule.ensures s is) (inv.loaded s is));
    }

pub returns : goal.returns
returns c s is =
    let inv = c.loop-number.invariant in
    let size = inv.size in
    let whole = memory_size c.args.state.store.now c.args.state.row.now s is in
    all_loaded c.loop-number.ram s.memory c.loop-number.number (omega arith) (omega arith) (inv.loaded s is)
