use Rattle.std.proofs.Common.{◌<◌, ap, arith, length}
use Rattle.std.proofs.lemmas.Option.{slice_get_within}
use Rattle.cheri_model.specs.runs.Image.{ImageParts}
use Rattle.graph_search.specs.Trees.{state_at}
use Rattle.state_store.proofs.NumberedLemmas.{some_of}
use Rattle.states.proofs.NodeLemmas.{is_some, node_of}
use Rattle.granule_states.specs.Graphs.{state_in}
use Rattle.granule_states.proofs.ScanLemmas.{no_nodes, node_before, node_there, nodes_more, node_row}
use Rattle.granule_states.proofs.TurnLemmas.{learns_on, learns_self}
use Rattle.granule_states.proofs.graph.GranuleGraph.nodes_respect.Goals as goal

pub loop-number-init : goal.loop-number-init
loop-number-init c = record {
  learns = learns_self c.args.self.now;
  passed = no_nodes c.args.self.now c.args.owners.now (state_at (state_in c.args.self.now) c.args.reached.now.nodes);
}

pub node_respects-requires-clause-meant : goal.node_respects-requires-clause-meant
node_respects-requires-clause-meant c =
    let low : c.loop-number.number < length c.args.reached.now.nodes = omega (arith, c.loop-number-test.true, c.len-number-end.ensures) in
    let s = some_of (state_at (state_in c.args.self.now) c.args.reached.now.nodes c.loop-number.number)
    (c.requires.meant c.loop-number.number low) in
    is_some (state_in c.loop-number.self c.read-node.result.now) s.0
    (node_there c.args.self.now c.loop-number.self c.loop-number.invariant.learns c.args.reached.now.nodes c.loop-number.number
    c.read-node.result.now s.0 c.read-node.ensures s.1)

pub node_respects-requires-clause-few : goal.node_respects-requires-clause-few
node_respects-requires-clause-few c =
    let low : c.loop-number.number < length c.args.reached.now.nodes = omega (arith, c.loop-number-test.true, c.len-number-end.ensures) in
    let s = some_of (state_at (state_in c.args.self.now) c.args.reached.now.nodes c.loop-number.number)
    (c.requires.meant c.loop-number.number low) in
    let there = node_there c.args.self.now c.loop-number.self c.loop-number.invariant.learns c.args.reached.now.nodes c.loop-number.number
    c.read-node.result.now s.0 c.read-node.ensures s.1 in
    let width = (node_of c.loop-number.self.graph c.read-node.result.now s.0 there).width in
    let same = ap (λ (i : ImageParts). length i.harts) c.loop-number.invariant.learns.graph.image in
    omega (arith, width, same, c.requires.harts)

pub loop-number-preserved : goal.loop-number-preserved
loop-number-preserved c =
    let learns = c.loop-number.invariant.learns in
    record {
      learns = learns_on c.args.self.now c.loop-number.self c.node_respects.new.self learns c.node_respects.ensures.learns;
      passed = nodes_more c.args.self.now c.args.owners.now (state_at (state_in c.args.self.now) c.args.reached.now.nodes)
          c.loop-number.number c.loop-number.invariant.passed
          (λ s is. node_before c.args.self.now c.loop-number.self learns c.args.owners.now s
          (c.in_ok-node_respects.ensures.node s
          (node_there c.args.self.now c.loop-number.self learns c.args.reached.now.nodes c.loop-number.number
          c.read-node.result.now s c.read-node.ensures is) c.if-not-branch.false));
    }

pub returns-clause-nodes : goal.returns-clause-nodes
returns-clause-nodes c i s is holds =
    let there = node_row (state_in c.args.self.now) c.args.reached.now.nodes i s is in
    let low : i < length c.args.reached.now.nodes = slice_get_within c.args.reached.now.nodes i there.0 there.1 in
    c.loop-number.invariant.passed i s (omega (arith, low, c.loop-number-test.false, c.len-number-end.ensures)) is
