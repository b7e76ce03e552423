use Rattle.std.proofs.Common.{append_assoc}
use Rattle.explore_checks.specs.CheckParts.{json_head}
use Rattle.report_lines.proofs.JsonLemmas.{image_no_float}
use Rattle.explore_checks.proofs.json.write_head.Goals as goal

pub write_json_value-requires : goal.write_json_value-requires
write_json_value-requires c = rw c.in_ok-image_json.ensures (image_no_float c.args.image.now)

pub returns : goal.returns
unfolding json_head
returns c =
    let e = simp (
      c.in_ok-write.ensures.bytes,
      c.version_of-version.ensures,
      c.in_ok-push_str-2.ensures.bytes,
      c.complete_text.ensures,
      c.in_ok-push_str.ensures.bytes,
      c.in_ok-image_json.ensures,
    ) at c.write_json_value.ensures in
    simp append_assoc at e
