use Rattle.std.proofs.Common.{append_assoc}
use Rattle.report_lines.proofs.JsonLemmas.{image_no_float}
use Rattle.alike_outcomes.specs.AlikeTexts.{alike_json_head}
use Rattle.alike_outcomes.proofs.heads.write_json_head.Goals as goal

pub write_json_value-requires : goal.write_json_value-requires
write_json_value-requires c = rw c.in_ok-image_json.ensures (image_no_float c.args.head.image.now)

pub returns : goal.returns
unfolding alike_json_head
returns c =
    let e = simp (
      c.in_ok-push_str-3.ensures.bytes,
      c.in_ok-push_str-2.ensures.bytes,
      c.complete_text.ensures,
      c.in_ok-push_str.ensures.bytes,
      c.in_ok-image_json.ensures,
    ) at c.write_json_value.ensures in
    simp append_assoc at e
