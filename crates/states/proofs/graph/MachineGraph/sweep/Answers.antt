use Rattle.std.proofs.Common.{◌-◌, ◌<◌, ◌≤◌, length, arith, ap, sym, ◌∙◌, inl, inr}
use Rattle.std.specs.Prelude.{slice_index_or, option_map}
use Rattle.cheri_model.specs.runs.Machine as machine
use Rattle.state_store.specs.Stores.{hart_at, memory_at}
use Rattle.state_store.proofs.StoreLemmas.{memory_at_kept}
use Rattle.states.specs.Graphs.{state_in, rest_in}
use Rattle.states.proofs.NodeLemmas.{some_state, node_of, is_some, continues_self, continues_on}
use Rattle.states.proofs.EdgeLemmas.{sweep_begun, sweep_on, sweep_leads, hart_there, taken_of_none, range_good, range_bad}
use Rattle.states.proofs.graph.MachineGraph.sweep.Goals as goal

pub returns-then-from-range-clause-value : goal.returns-then-from-range-clause-value
returns-then-from-range-clause-value c s is =
    ap (option_map (rest_in c.args.self.now)) (taken_of_none c.args.self.now.image s c.args.range (elim c.then-from-range.either [
      | inl empty ↦ range_bad c.args.range (let from = c.from.ensures in inl (omega arith))
      | inr past ↦ range_bad c.args.range (let high = past.1 in inr (omega arith))
    ]))

pub copy_from_slice-requires : goal.copy_from_slice-requires
copy_from_slice-requires c =
    let s = some_state c.args.self.now c.args.node.now c.requires.meant in
    c.requires.room ∙ sym (node_of c.args.self.now c.args.node.now s.0 s.1).width

pub loop-place-init : goal.loop-place-init
loop-place-init c = record {
  continues = continues_self c.args.self.now;
  swept = λ s is.
      ap (state_in c.args.self.now) c.copy_from_slice.ensures.after ∙ sweep_begun c.args.self.now c.args.node.now s c.args.range is;
}

pub swept_hart-requires : goal.swept_hart-requires
swept_hart-requires c =
    let s = some_state c.args.self.now c.args.node.now c.requires.meant in
    let some : 0 < c.loop-place.place = omega arith in
    let within : c.loop-place.place < length c.args.node.now = omega arith in
    is_some (hart_at c.loop-place.self.store (slice_index_or c.args.node.now c.loop-place.place 0))
    (machine.hart_at s.0 (c.loop-place.place - 1))
    (hart_there c.args.self.now c.loop-place.self c.loop-place.invariant.continues c.args.node.now s.0 c.loop-place.place s.1 some within).1

pub loop-place-preserved : goal.loop-place-preserved
loop-place-preserved c =
    let some : 0 < c.loop-place.place = omega arith in
    let within : c.loop-place.place < length c.args.node.now = omega arith in
    record {
      continues = continues_on c.args.self.now c.loop-place.self c.swept_hart.new.self c.loop-place.invariant.continues
          c.swept_hart.ensures.continues;
      swept = λ s is. sweep_on c.args.self.now c.loop-place.self c.swept_hart.new.self c.loop-place.invariant.continues
          c.swept_hart.ensures.continues c.args.node.now c.loop-place.to s c.args.range c.loop-place.place c.in_ok-swept.swept is some
          within (c.loop-place.invariant.swept s is) (λ hart known. c.in_ok-swept.ensures.numbered hart known);
    }

pub swept_memory-requires : goal.swept_memory-requires
swept_memory-requires c =
    let s = some_state c.args.self.now c.args.node.now c.requires.meant in
    is_some (memory_at c.loop-place.self.store (slice_index_or c.args.node.now 0 0)) s.0.memory
    (memory_at_kept c.args.self.now.store c.loop-place.self.store c.loop-place.invariant.continues.keeps
    (slice_index_or c.args.node.now 0 0) s.0.memory (node_of c.args.self.now c.args.node.now s.0 s.1).memory)

pub returns : goal.returns
returns c = record {
  continues = continues_on c.args.self.now c.loop-place.self c.swept_memory.new.self c.loop-place.invariant.continues
      c.swept_memory.ensures.continues;
  value = λ s is.
      let node = node_of c.args.self.now c.args.node.now s is in
      let width = node.width in
      let count = node.count in
      let end = c.loop-place-test.false in
      let all : length s.harts ≤ c.loop-place.place - 1 = omega arith in
      let from = c.from.ensures in
      let low = c.if-from-range.false in
      let ordered : c.args.range.lo ≤ c.args.range.hi = omega arith in
      sweep_leads c.args.self.now c.loop-place.self c.swept_memory.new.self c.swept_memory.ensures.continues c.loop-place.to s
      c.args.range (c.loop-place.place - 1) c.in_ok-memory.memory (c.loop-place.invariant.swept s is) all
      (range_good c.args.range ordered c.if-range-gt-ADDRESS_SPACE.false)
      (c.in_ok-memory.ensures.numbered s.memory (memory_at_kept c.args.self.now.store c.loop-place.self.store
      c.loop-place.invariant.continues.keeps (slice_index_or c.args.node.now 0 0) s.memory node.memory));
}
