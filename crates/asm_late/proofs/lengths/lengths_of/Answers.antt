use Rattle.std.proofs.Common.{refl}
use Rattle.asm_late.specs.Scene.{scene_parts, scene_program}
use Rattle.asm_late.proofs.LengthLemmas.{length_next, lengths_end}
use Rattle.asm_late.proofs.lengths.lengths_of.Goals as goal

pub loop-number-preserved : goal.loop-number-preserved
loop-number-preserved c =
    rw c.in_ok-push.ensures.items
    (length_next (scene_program c.args.scene.now) (scene_parts c.args.scene.now) c.args.values.now c.args.sizes.now c.as_slice-symbols.result.now c.loop-number.lengths.items _
    c.loop-number.number c.loop-number.invariant _ _ c.in_ok-bytes.bytes c.loop-number-test.true refl (rw c.size_at-size.ensures at c.in_ok-bytes.ensures))

pub returns : goal.returns
returns c =
    rw c.as_slice-symbols.ensures.value at
    (lengths_end (scene_program c.args.scene.now) (scene_parts c.args.scene.now) c.args.values.now c.args.sizes.now c.as_slice-symbols.result.now c.loop-number.lengths.items _
    c.loop-number.number c.loop-number.invariant c.loop-number-test.false)
