use Rattle.std.proofs.Common.{◌∙◌, false, sym, refl}
use Rattle.tagged_mem.proofs.SweptRam.{granule_kept, granule_cleared}
use Rattle.tagged_mem.proofs.sweeping.sweep_granule.Goals as goal

pub returns-then-not-tag-clause-swept : goal.returns-then-not-tag-clause-swept
returns-then-not-tag-clause-swept c =
    let none = sym c.tag_at-tag.ensures ∙ c.if-not-tag.true in
    granule_kept _ _ _ _ _ false (rw none refl) refl

pub returns-then-not-is_in_sweep-clause-swept : goal.returns-then-not-is_in_sweep-clause-swept
returns-then-not-is_in_sweep-clause-swept c =
    let test = rw (c.unpacked-value.ensures.value, c.tag_at-tag.ensures, c.word_at.ensures) at c.is_in_sweep.ensures.value in
    granule_kept _ _ _ _ _ _ test c.if-not-is_in_sweep.true

pub returns-clause-swept : goal.returns-clause-swept
returns-clause-swept c =
    let test = rw (c.unpacked-value.ensures.value, c.tag_at-tag.ensures, c.word_at.ensures) at c.is_in_sweep.ensures.value in
    let others = c.put_tag.ensures.others in
    granule_cleared _ _ _ _ _ _ _ test c.if-not-is_in_sweep.false c.put_tag.ensures.size others c.put_tag.ensures.there
