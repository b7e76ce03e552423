use Rattle.std.proofs.Common.{append_assoc}
use Rattle.found_texts.specs.FoundParts.{image_members}
use Rattle.report_lines.proofs.JsonLemmas.{image_no_float}
use Rattle.found_texts.proofs.shown.write_image_members.Goals as goal

pub write_json_value-requires : goal.write_json_value-requires
write_json_value-requires c = rw c.in_ok-image_json.ensures (image_no_float c.args.image.now)

pub returns : goal.returns
unfolding image_members
returns c =
    let e = simp (c.in_ok-image_json.ensures, c.in_ok-write.ensures.bytes, c.reduced_version-version.ensures) at c.in_ok-write_json_value.ensures in
    simp append_assoc at e
