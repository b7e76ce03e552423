use Rattle.std.proofs.Common.{append_assoc}
use Rattle.alike_outcomes.specs.AlikeTexts.{alike_head_lines}
use Rattle.alike_outcomes.proofs.heads.write_head_lines.Goals as goal

pub returns : goal.returns
unfolding alike_head_lines
returns c =
    let e = simp (
      c.in_ok-write_states_line.ensures,
      c.in_ok-write_reduced_line.ensures,
      c.in_ok-write_image_line.ensures,
      c.in_ok-push_str.ensures.bytes,
    ) at c.in_ok-push_str-2.ensures.bytes in
    simp append_assoc at e
