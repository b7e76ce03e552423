use Rattle.std.proofs.Common.{append_assoc}
use Rattle.outcome_texts.specs.OutcomeParts.{json_head}
use Rattle.report_lines.proofs.JsonLemmas.{image_no_float}
use Rattle.outcome_texts.proofs.EndlessLemmas.{endless_no_float}
use Rattle.outcome_texts.proofs.heads.write_json_head.Goals as goal

pub write_json_value-requires : goal.write_json_value-requires
write_json_value-requires c = rw c.in_ok-endless_json.ensures (endless_no_float c.args.head.endless.now)

pub write_json_value-requires-2 : goal.write_json_value-requires-2
write_json_value-requires-2 c = rw c.in_ok-image_json.ensures (image_no_float c.args.head.image.now)

pub returns : goal.returns
unfolding json_head
returns c =
    let e = simp (
      c.in_ok-write.ensures.bytes,
      c.reduced_version-version.ensures,
      c.in_ok-write_json_value.ensures,
      c.in_ok-push_str-3.ensures.bytes,
      c.in_ok-push_str-2.ensures.bytes,
      c.complete_text.ensures,
      c.in_ok-push_str.ensures.bytes,
      c.in_ok-image_json.ensures,
      c.in_ok-endless_json.ensures,
    ) at c.write_json_value-2.ensures in
    simp append_assoc at e
