use Rattle.asm_image.proofs.SizeLemmas.{few}
use Rattle.asm_image.proofs.whole.draw.Goals as goal

pub exit_address-requires : goal.exit_address-requires
exit_address-requires c =
    few c.args.late.linked.now.instructions c.args.exit c.args.late.linked.now.layout.memory_end _ c.in_ok-judge_sizes.ensures
