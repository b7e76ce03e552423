-- the statements that are left say the answer
use Rattle.std.proofs.Common.{◌≡◌}
use Rattle.asm_late.specs.Reach.{file_leaves}
use Rattle.asm_late.specs.Scene.{scene_parts, scene_program}
use Rattle.asm_late.proofs.reach.file_leaves.Given as goal

abbrev pub invariant-loop-left : goal.invariant-loop-left
invariant-loop-left l =
    file_leaves (scene_program l.scene) (scene_parts l.scene) l.values l.file l.left
    ≡ file_leaves (scene_program l.scene) (scene_parts l.scene) l.values l.file l.count

abbrev pub decreases-loop-left : goal.decreases-loop-left
decreases-loop-left l = l.left
