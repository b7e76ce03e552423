-- the files that are left say the answer
use Rattle.std.proofs.Common.{◌≡◌}
use Rattle.asm_late.specs.Reach.{some_leaves}
use Rattle.asm_late.specs.Scene.{scene_parts, scene_program}
use Rattle.asm_late.proofs.reach.some_leaves.Given as goal

abbrev pub invariant-loop-left : goal.invariant-loop-left
invariant-loop-left l =
    some_leaves (scene_program l.scene) (scene_parts l.scene) l.values l.left
    ≡ some_leaves (scene_program l.scene) (scene_parts l.scene) l.values l.count

abbrev pub decreases-loop-left : goal.decreases-loop-left
decreases-loop-left l = l.left
