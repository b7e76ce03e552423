use Rattle.std.proofs.Common.{◌≡◌, inr, sym, length, arith}
use Rattle.asm_expressions.proofs.StackLemmas.{popped_some, nothing}
use Rattle.asm_expressions.proofs.ValueLemmas.{next_value, value_stops, last_value, no_value}
use Rattle.asm_expressions.proofs.values.value_of.Goals as goal

pub returns-in-Err : goal.returns-in-Err
returns-in-Err g c = value_stops _ _ c.args.nodes.now c.loop-node.node-index _ c.in-Err.fault c.loop-node-test.true c.in-Err.ensures c.loop-node.invariant

pub loop-node-preserved : goal.loop-node-preserved
loop-node-preserved g c = next_value _ _ _ c.args.nodes.now c.loop-node.node-index _ _ c.loop-node-test.true c.in-Ok.ensures c.loop-node.invariant

pub returns-in-Some : goal.returns-in-Some
returns-in-Some g c =
    inr (sym (last_value _ _ _ c.in-Some.value c.args.nodes.now c.loop-node.node-index c.loop-node-test.false (popped_some _ _ _ c.in-Some.ensures.items) c.loop-node.invariant))

pub returns : goal.returns
returns g c =
    let none : length c.loop-node.values.items ≡ 0 = omega (arith, c.in-None.ensures.cases.0, c.loop-node.values.ok.0) in
    inr (sym (no_value _ _ c.args.nodes.now c.loop-node.node-index c.loop-node-test.false (nothing c.loop-node.values.items none) c.loop-node.invariant))
