use Rattle.std.proofs.Common.{append_assoc}
use Rattle.alike_outcomes.specs.AlikeTexts.{alike_listed_text}
use Rattle.alike_outcomes.proofs.listed.write_lines.Goals as goal

pub returns : goal.returns
unfolding alike_listed_text
returns c =
    let e = simp (c.in_ok-write_outcomes.ensures, c.in_ok-write_head_lines.ensures) at c.in_ok-push_str.ensures.bytes in
    simp append_assoc at e
