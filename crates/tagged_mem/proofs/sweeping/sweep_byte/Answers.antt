use Rattle.std.proofs.Common.{arith, sym}
use Rattle.tagged_mem.proofs.SweptRam.{no_tags, untagged_swept, untagged_cleared}
use Rattle.tagged_mem.proofs.sweeping.sweep_byte.Goals as goal

pub returns-then-tags-index-eq0-clause-swept : goal.returns-then-tags-index-eq0-clause-swept
returns-then-tags-index-eq0-clause-swept c =
    untagged_swept _ _ _ _ _ _ (λ k at within. no_tags c.args.tags.now c.args.index k c.if-tags-index-eq0.true at (omega arith))

pub returns-then-tags-index-eq0-clause-cleared : goal.returns-then-tags-index-eq0-clause-cleared
returns-then-tags-index-eq0-clause-cleared c =
    sym (untagged_cleared _ _ _ _ _ _ (λ k at within. no_tags c.args.tags.now c.args.index k c.if-tags-index-eq0.true at (omega arith)))
