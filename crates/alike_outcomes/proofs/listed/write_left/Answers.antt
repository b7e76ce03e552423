use Rattle.std.proofs.Common.{refl}
use Rattle.forgotten_outcomes.proofs.ToldLemmas.{text_alone}
use Rattle.alike_outcomes.specs.AlikeTexts.{left_part}
use Rattle.alike_outcomes.proofs.listed.write_left.Goals as goal

pub returns : goal.returns
unfolding left_part
returns c =
    let text_is = text_alone _ _ _ _ c.new-text.ensures.bytes refl c.in_ok-write_order.ensures in
    rw (c.in_ok-state.ensures, text_is) at c.write_ordered.ensures
