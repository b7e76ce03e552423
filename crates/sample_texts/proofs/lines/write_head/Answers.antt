use Rattle.std.proofs.Common.{append_assoc}
use Rattle.sample_texts.specs.SampleTexts.{head_lines}
use Rattle.sample_texts.proofs.lines.write_head.Goals as goal

pub returns-clause-written : goal.returns-clause-written
unfolding head_lines
returns-clause-written c =
    let e = simp (
      c.in_ok-write_perhaps-2.ensures.written,
      c.in_ok-push_str-3.ensures.bytes,
      c.in_ok-write_perhaps.ensures.written,
      c.in_ok-push_str-2.ensures.bytes,
      c.in_ok-write_runs_line.ensures,
      c.in_ok-write_drawn_line.ensures,
      c.in_ok-write_image_line.ensures,
      c.in_ok-push_str.ensures.bytes,
      c.image.ensures,
      c.drawing.ensures,
      c.hung.ensures,
      c.cut.ensures,
      c.write_perhaps.ensures.same,
    ) at c.in_ok-push_str-4.ensures.bytes in
    simp append_assoc at e
