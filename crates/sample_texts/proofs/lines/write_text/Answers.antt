use Rattle.std.proofs.Common.{append_assoc}
use Rattle.sample_texts.specs.SampleTexts.{sample_lines}
use Rattle.sample_texts.proofs.lines.write_text.Goals as goal

pub returns : goal.returns
unfolding sample_lines
returns c =
    let e = simp (
      c.in_ok-write_properties.ensures,
      c.in_ok-write_ends_lines.ensures.written,
      c.in_ok-write_trap_lines.ensures.written,
      c.in_ok-write_head.ensures.written,
      c.write_trap_lines.ensures.same,
      c.write_head.ensures.same,
      c.requires.drawn,
    ) at c.in_ok-push_str.ensures.bytes in
    simp append_assoc at e
