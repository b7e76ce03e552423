use Rattle.std.proofs.Common.{append_assoc}
use Rattle.sample_texts.specs.SampleTexts.{drawn_line}
use Rattle.sample_texts.proofs.drawn.write_drawn_line.Goals as goal

pub returns : goal.returns
unfolding drawn_line
returns c =
    let e = simp (
      c.in_ok-write_sweeps.ensures,
      c.in_ok-write_depth.ensures,
      c.in_ok-write.ensures.bytes,
      c.sweeps.ensures,
      c.depth.ensures,
      c.length.ensures,
      c.seed.ensures.value,
    ) at c.in_ok-push_str.ensures.bytes in
    simp append_assoc at e
