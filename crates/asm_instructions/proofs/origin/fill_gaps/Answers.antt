use Rattle.std.proofs.Common.{refl, rules}
use Rattle.asm_instructions.proofs.Gaps.{fill_begins, fill_before}
use Rattle.asm_instructions.proofs.origin.fill_gaps.Goals as goal

pub loop-at-init : goal.loop-at-init
loop-at-init c = fill_begins c.args.marks.now c.in_ok-origins.origins.items (search rules)

pub loop-at-preserved : goal.loop-at-preserved
loop-at-preserved c =
    rw c.gap_before-next.ensures (fill_before c.args.marks.now c.loop-at.origins.items c.loop-at.next c.loop-at.at _ _ c.unwrap_or-origin.result
    c.loop-at-test.true c.loop-at.invariant refl c.unwrap_or-origin.ensures)
