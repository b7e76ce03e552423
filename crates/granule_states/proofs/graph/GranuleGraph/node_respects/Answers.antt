use Rattle.std.proofs.Common.{ap, arith, length}
use Rattle.cheri_model.specs.runs.Image.{ImageParts}
use Rattle.state_store.proofs.NumberedLemmas.{some_of}
use Rattle.states.proofs.NodeLemmas.{is_some}
use Rattle.granule_states.specs.Graphs.{state_in}
use Rattle.granule_states.proofs.ScanLemmas.{edge_before, none_passed, passed_more}
use Rattle.granule_states.proofs.TurnLemmas.{learns_on, learns_self, state_learned}
use Rattle.granule_states.proofs.graph.GranuleGraph.node_respects.Goals as goal

pub loop-label-init : goal.loop-label-init
loop-label-init c = record {
  learns = learns_self c.args.self.now;
  passed = λ s is. none_passed c.args.self.now c.args.owners.now s;
}

pub edge_respects-requires-clause-meant : goal.edge_respects-requires-clause-meant
edge_respects-requires-clause-meant c =
    let s = some_of (state_in c.args.self.now c.args.node.now) c.requires.meant in
    is_some (state_in c.loop-label.self c.args.node.now) s.0
    (state_learned c.args.self.now c.loop-label.self c.loop-label.invariant.learns c.args.node.now s.0 s.1)

pub edge_respects-requires-clause-labelled : goal.edge_respects-requires-clause-labelled
edge_respects-requires-clause-labelled c =
    let same = ap (λ (i : ImageParts). length i.harts) c.loop-label.invariant.learns.graph.image in
    let below = c.loop-label-test.true in
    let count = c.label_count-label-end.ensures in
    omega (arith, same, below, count)

pub loop-label-preserved : goal.loop-label-preserved
loop-label-preserved c =
    let learns = c.loop-label.invariant.learns in
    record {
      learns = learns_on c.args.self.now c.loop-label.self c.edge_respects.new.self learns c.edge_respects.ensures.learns;
      passed = λ s is.
          let there = state_learned c.args.self.now c.loop-label.self learns c.args.node.now s is in
          passed_more c.args.self.now c.args.owners.now s c.loop-label.label (c.loop-label.invariant.passed s is)
          (edge_before c.args.self.now c.loop-label.self learns c.args.owners.now s c.loop-label.label
          (c.in_ok-edge_respects.ensures.edge s there c.if-not-branch.false));
    }

pub returns-clause-node : goal.returns-clause-node
returns-clause-node c s is holds l low =
    let past = c.loop-label-test.false in
    let count = c.label_count-label-end.ensures in
    c.loop-label.invariant.passed s is l (omega (arith, low, past, count))
