use Rattle.std.proofs.Common.{arith}
use Rattle.asm_late.specs.Scene.{scene_parts, scene_program}
use Rattle.asm_late.proofs.ReachLemmas.{file_on, file_found, file_none}
use Rattle.asm_late.proofs.reach.file_leaves.Goals as goal

pub loop-left-preserved : goal.loop-left-preserved
loop-left-preserved c =
    file_on (scene_program c.args.scene.now) (scene_parts c.args.scene.now) c.args.values.now c.args.file c.loop-left.left _ c.in_ok-leaves.leaves
    c.loop-left-test.true c.loop-left.invariant c.in_ok-leaves.ensures c.if-leaves.false

pub returns-then-leaves : goal.returns-then-leaves
returns-then-leaves c =
    file_found (scene_program c.args.scene.now) (scene_parts c.args.scene.now) c.args.values.now c.args.file c.loop-left.left _ c.in_ok-leaves.leaves
    c.loop-left-test.true c.loop-left.invariant c.in_ok-leaves.ensures c.if-leaves.true

pub returns : goal.returns
returns c =
    file_none (scene_program c.args.scene.now) (scene_parts c.args.scene.now) c.args.values.now c.args.file c.loop-left.left _ (omega arith) c.loop-left.invariant
