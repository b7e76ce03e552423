-- Where the first five lines pass, the others are the verdict.
use Rattle.std.proofs.Common.{not, sym, ap, ◌∙◌}
use Rattle.cheri_model.specs.steps.Checks.{invoke_table}
use Rattle.cheri_caps.proofs.VerdictLemmas.{line_passes, passes_as}
use Rattle.cheri_caps.proofs.jumps.invoke_verdict.Goals as goal

pub returns : goal.returns
unfolding invoke_table
returns c =
    let one = passes_as _ _ _ _ _ c.check.ensures (ap not c.tag.ensures.value) c.in_ok-check.was in
    let two = passes_as _ _ _ _ _ c.check-2.ensures (ap not c.tag-2.ensures.value) c.in_ok-check-2.was in
    let three = passes_as _ _ _ _ _ c.check-3.ensures c.unsealable.ensures c.in_ok-check-3.was in
    let four = passes_as _ _ _ _ _ c.check-4.ensures c.unsealable-2.ensures c.in_ok-check-4.was in
    let five = passes_as _ _ _ _ _ c.check-5.ensures c.have_other_types.ensures c.in_ok-check-5.was in
    c.pair_verdict.ensures
    ∙ sym
    (line_passes _ _ _ _ one ∙ line_passes _ _ _ _ two ∙ line_passes _ _ _ _ three ∙ line_passes _ _ _ _ four
    ∙ line_passes _ _ _ _ five)
