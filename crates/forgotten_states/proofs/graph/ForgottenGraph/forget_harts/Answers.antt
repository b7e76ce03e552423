use Rattle.std.proofs.Common.{◌≡◌, ◌-◌, ◌<◌, length, arith, sym, ◌∙◌, subst}
use Rattle.std.specs.Prelude.{slice_index_or}
use Rattle.std.proofs.lemmas.Option.{same_Some}
use Rattle.cheri_model.specs.runs.Machine.{MachineState}
use Rattle.live_registers.specs.LiveSets.{LiveSets}
use Rattle.states.specs.Graphs.{rest_in}
use Rattle.states.proofs.NodeLemmas.{node_of}
use Rattle.forgotten_states.specs.Graphs.{IsForgottenNumber}
use Rattle.forgotten_states.proofs.GraphLemmas.{remembers_on, remembers_self}
use Rattle.forgotten_states.proofs.RowLemmas.{forget_all, forget_begun, forget_on, next_hart, rest_kept}
use Rattle.forgotten_states.proofs.graph.ForgottenGraph.forget_harts.Goals as goal

pub loop-place-init : goal.loop-place-init
loop-place-init c = record {
  remembers = remembers_self c.args.self.now;
  forgotten = λ s is. forget_begun c.args.self.now.live c.args.self.now.graph c.args.row.now s is;
}

pub forgotten_number-requires : goal.forgotten_number-requires
forgotten_number-requires c =
    let s = c.requires.0 in
    let was = c.loop-place.invariant.forgotten s c.requires.1 in
    let rested : rest_in c.loop-place.self.graph s ≡ s =
    rest_kept c.args.self.now.graph c.loop-place.self.graph c.loop-place.invariant.remembers.graph s ∙ c.requires.2 in
    let some : 0 < c.loop-place.place = omega arith in
    let within : c.loop-place.place < length c.loop-place.row = omega arith in
    let next = next_hart c.args.self.now.live c.loop-place.self.graph c.loop-place.row s c.loop-place.place was rested some within in
    (next.hart, next.there, next.rests)

pub loop-place-preserved : goal.loop-place-preserved
loop-place-preserved c =
    let kept = c.loop-place.invariant.remembers in
    let more = c.forgotten_number.ensures.remembers in
    let some : 0 < c.loop-place.place = omega arith in
    let within : c.loop-place.place < length c.loop-place.row = omega arith in
    record {
      remembers = remembers_on c.args.self.now c.loop-place.self c.forgotten_number.new.self kept more;
      forgotten = λ s is.
          let same : c.requires.0 ≡ s = same_Some c.requires.0 s (sym c.requires.1 ∙ is) in
          let was = c.loop-place.invariant.forgotten s is in
          let rested : rest_in c.loop-place.self.graph s ≡ s =
          rest_kept c.args.self.now.graph c.loop-place.self.graph kept.graph s
          ∙ subst (λ (t : MachineState). rest_in c.args.self.now.graph t ≡ t) same c.requires.2 in
          forget_on c.args.self.now.live c.loop-place.self.graph c.forgotten_number.new.self.graph more.graph c.loop-place.row s
          c.loop-place.place c.in_ok-after.after was some
          (next_hart c.args.self.now.live c.loop-place.self.graph c.loop-place.row s c.loop-place.place was rested some within)
          (subst (λ (live : LiveSets). IsForgottenNumber live c.forgotten_number.new.self.graph.store
          (slice_index_or c.loop-place.row c.loop-place.place 0) c.in_ok-after.after) kept.live c.in_ok-after.ensures.numbered);
    }

pub returns-clause-forgotten : goal.returns-clause-forgotten
returns-clause-forgotten c s is =
    let was = c.loop-place.invariant.forgotten s is in
    let node = node_of c.args.self.now.graph c.args.row.now s is in
    let width = node.width in
    let count = node.count in
    let end = c.loop-place-test.false in
    forget_all c.args.self.now.live c.loop-place.self.graph c.loop-place.row s (c.loop-place.place - 1) was (omega arith)
