use Rattle.std.proofs.Common.{append_assoc}
use Rattle.sample_texts.specs.SampleJson.{drawn_json}
use Rattle.sample_texts.proofs.drawn.write_drawn_json.Goals as goal

pub returns : goal.returns
unfolding drawn_json
returns c =
    let e = simp (
      c.in_ok-write_sweeps.ensures,
      c.in_ok-write.ensures.bytes,
      c.in_ok-write_depth_member.ensures,
      c.in_ok-push_str.ensures.bytes,
      c.sweeps.ensures,
      c.length-length.ensures,
      c.seed-seed.ensures.value,
      c.depth.ensures,
    ) at c.in_ok-push_str-2.ensures.bytes in
    simp append_assoc at e
