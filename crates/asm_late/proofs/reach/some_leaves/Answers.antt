use Rattle.std.proofs.Common.{arith}
use Rattle.asm_late.specs.Scene.{scene_parts, scene_program}
use Rattle.asm_late.proofs.ReachLemmas.{some_on, some_found, some_none}
use Rattle.asm_late.proofs.reach.some_leaves.Goals as goal

pub loop-left-preserved : goal.loop-left-preserved
loop-left-preserved c =
    some_on (scene_program c.args.scene.now) (scene_parts c.args.scene.now) c.args.values.now c.loop-left.left c.count_in-statements.result _ c.in_ok-leaves.leaves
    c.loop-left-test.true c.loop-left.invariant c.count_in-statements.ensures c.in_ok-leaves.ensures c.if-leaves.false

pub returns-then-leaves : goal.returns-then-leaves
returns-then-leaves c =
    some_found (scene_program c.args.scene.now) (scene_parts c.args.scene.now) c.args.values.now c.loop-left.left c.count_in-statements.result _ c.in_ok-leaves.leaves
    c.loop-left-test.true c.loop-left.invariant c.count_in-statements.ensures c.in_ok-leaves.ensures c.if-leaves.true

pub returns : goal.returns
returns c =
    some_none (scene_program c.args.scene.now) (scene_parts c.args.scene.now) c.args.values.now c.loop-left.left _ (omega arith) c.loop-left.invariant
