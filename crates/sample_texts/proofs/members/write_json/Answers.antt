use Rattle.std.proofs.Common.{append_assoc}
use Rattle.sample_texts.specs.SampleJson.{sample_json}
use Rattle.sample_texts.proofs.members.write_json.Goals as goal

pub returns : goal.returns
unfolding sample_json
returns c =
    let e = simp (
      c.in_ok-write_shown_member.ensures.written,
      c.in_ok-write.ensures.bytes,
      c.in_ok-write_properties_member.ensures,
      c.in_ok-write_outcomes_member.ensures.written,
      c.in_ok-write_numbers.ensures,
      c.in_ok-write_items.ensures,
      c.in_ok-write_head.ensures.written,
      c.longest.ensures,
      c.runs.ensures,
      c.write_shown_member.ensures.same,
      c.write_outcomes_member.ensures.same,
      c.write_head.ensures.same,
      c.requires.drawn,
    ) at c.write_traps_member.ensures.written in
    simp append_assoc at e
