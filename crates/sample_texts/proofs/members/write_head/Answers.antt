use Rattle.std.proofs.Common.{append_assoc}
use Rattle.sample_texts.specs.SampleJson.{json_head}
use Rattle.sample_texts.proofs.members.write_head.Goals as goal

pub returns-clause-written : goal.returns-clause-written
unfolding json_head
returns-clause-written c =
    let e = simp (
      c.in_ok-push_str-3.ensures.bytes,
      c.in_ok-write_runs-2.ensures.written,
      c.in_ok-write.ensures.bytes,
      c.in_ok-write_drawn_json.ensures,
      c.in_ok-push_str-2.ensures.bytes,
      c.in_ok-write_runs.ensures.written,
      c.in_ok-push_str.ensures.bytes,
      c.image.ensures,
      c.drawing.ensures,
      c.hung.ensures,
      c.cut.ensures,
      c.write_runs-2.ensures.same,
      c.write_runs.ensures.same,
    ) at c.write_image.ensures in
    simp append_assoc at e
