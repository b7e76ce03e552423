use Rattle.std.proofs.Common.{◌-◌, ◌<◌, length, arith, subst}
use Rattle.std.specs.Prelude.{slice_index_or}
use Rattle.live_registers.specs.LiveSets.{LiveSets}
use Rattle.state_store.proofs.NumberedLemmas.{some_of}
use Rattle.states.proofs.NodeLemmas.{node_of}
use Rattle.owned_search.specs.Graphs.{IsForgottenNumber, state_in}
use Rattle.owned_search.proofs.GraphLemmas.{remembers_on, remembers_self}
use Rattle.owned_search.proofs.RowLemmas.{forget_all, forget_begun, forget_on, next_hart, next_there}
use Rattle.owned_search.proofs.graph.OwnedGraph.forget_harts.Goals as goal

pub loop-place-init : goal.loop-place-init
loop-place-init c = record {
  remembers = remembers_self c.args.self.now;
  forgotten = λ s is. forget_begun c.args.self.now.live c.args.self.now.graph.graph c.args.row.now s is;
}

pub forgotten_number-requires : goal.forgotten_number-requires
forgotten_number-requires c =
    let s = some_of (state_in c.args.self.now c.args.row.now) c.requires in
    let was = c.loop-place.invariant.forgotten s.0 s.1 in
    let some : 0 < c.loop-place.place = omega arith in
    let within : c.loop-place.place < length c.loop-place.row = omega arith in
    next_there c.loop-place.self.graph.graph c.loop-place.row s.0 c.loop-place.place
    (next_hart c.args.self.now.live c.loop-place.self.graph.graph c.loop-place.row s.0 c.loop-place.place was some within)

pub loop-place-preserved : goal.loop-place-preserved
loop-place-preserved c =
    let kept = c.loop-place.invariant.remembers in
    let more = c.forgotten_number.ensures.remembers in
    let some : 0 < c.loop-place.place = omega arith in
    let within : c.loop-place.place < length c.loop-place.row = omega arith in
    record {
      remembers = remembers_on c.args.self.now c.loop-place.self c.forgotten_number.new.self kept more;
      forgotten = λ s is.
          let was = c.loop-place.invariant.forgotten s is in
          forget_on c.args.self.now.live c.loop-place.self.graph.graph c.forgotten_number.new.self.graph.graph more.graph.graph
          c.loop-place.row s c.loop-place.place c.in_ok-after.after was some
          (next_hart c.args.self.now.live c.loop-place.self.graph.graph c.loop-place.row s c.loop-place.place was some within)
          (subst (λ (live : LiveSets). IsForgottenNumber live c.forgotten_number.new.self.graph.graph.store
          (slice_index_or c.loop-place.row c.loop-place.place 0) c.in_ok-after.after) kept.live c.in_ok-after.ensures.numbered);
    }

pub returns-clause-forgotten : goal.returns-clause-forgotten
returns-clause-forgotten c s is =
    let was = c.loop-place.invariant.forgotten s is in
    let node = node_of c.args.self.now.graph.graph c.args.row.now s is in
    let width = node.width in
    let count = node.count in
    let end = c.loop-place-test.false in
    forget_all c.args.self.now.live c.loop-place.self.graph.graph c.loop-place.row s (c.loop-place.place - 1) was (omega arith)
