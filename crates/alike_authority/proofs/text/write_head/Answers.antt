use Rattle.std.proofs.Common.{append_assoc}
use Rattle.alike_authority.specs.AlikeAuthorityTexts.{alike_head_lines}
use Rattle.alike_authority.proofs.text.write_head.Goals as goal

pub returns : goal.returns
unfolding alike_head_lines
returns c =
    let e = simp (c.in_ok-write_reduced_line.ensures, c.in_ok-write_image_line.ensures, c.in_ok-push_str.ensures.bytes)
    at c.in_ok-write_states_line.ensures in
    simp append_assoc at e
