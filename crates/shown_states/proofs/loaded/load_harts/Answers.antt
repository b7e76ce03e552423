use Rattle.std.proofs.Common.{◌<◌, length, arith}
use Rattle.cheri_model.specs.runs.Machine.{hart_at, no_hart}
use Rattle.state_store.proofs.SeenLemmas.{seen_count}
use Rattle.shown_states.proofs.LoadLemmas.{next_loaded, all_loaded}
use Rattle.shown_states.proofs.loaded.load_harts.Goals as goal

pub loop-number-preserved : goal.loop-number-preserved
unfolding hart_at
loop-number-preserved c s is =
    let count = seen_count c.args.state.store.now c.args.state.row.now s is in
    let within : c.loop-number.number < length c.loop-number.harts = omega arith in
    let there : c.loop-number.number < length s.harts = omega arith in
    next_loaded c.loop-number.harts s.harts c.loop-number.number no_hart c.load_hart.new.hart within there
    (c.load_hart.ensures s is) (c.loop-number.invariant s is)

pub returns : goal.returns
returns c s is =
    let count = seen_count c.args.state.store.now c.args.state.row.now s is in
    all_loaded c.loop-number.harts s.harts c.loop-number.number (omega arith) (omega arith) (c.loop-number.invariant s is)
