use Rattle.std.proofs.Common.{arith}
use Rattle.state_store.specs.Stores.{state_of}
use Rattle.state_store.proofs.NumberedLemmas.{some_of}
use Rattle.state_store.proofs.SeenLemmas.{seen_count}
use Rattle.state_store.proofs.view.State.hart_count.Goals as goal

pub overflow_sub-result : goal.overflow_sub-result
overflow_sub-result c =
    let s = some_of (state_of c.args.self.store.now c.args.self.row.now) c.requires in
    let count = seen_count c.args.self.store.now c.args.self.row.now s.0 s.1 in
    omega arith

pub returns : goal.returns
returns c s is = let count = seen_count c.args.self.store.now c.args.self.row.now s is in omega arith
