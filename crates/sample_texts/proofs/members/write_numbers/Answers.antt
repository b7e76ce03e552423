use Rattle.std.proofs.Common.{append_assoc}
use Rattle.sample_texts.specs.SampleJson.{numbers_json}
use Rattle.sample_texts.proofs.members.write_numbers.Goals as goal

pub returns : goal.returns
unfolding numbers_json
returns c =
    let e = simp (
      c.in_ok-write_spans.ensures,
      c.in_ok-write.ensures.bytes,
    ) at c.in_ok-push_str.ensures.bytes in
    simp append_assoc at e
