use Rattle.std.proofs.Common.{append_assoc}
use Rattle.explore_checks.specs.CheckParts.{check_json}
use Rattle.explore_checks.proofs.json.write_json.Goals as goal

pub returns : goal.returns
unfolding check_json
returns c =
    let e = simp (
      c.in_ok-write_reduced_member.ensures,
      c.in_ok-push_str-2.ensures.bytes,
      c.in_ok-write_properties.ensures,
      c.in_ok-push_str.ensures.bytes,
      c.in_ok-write_head.ensures,
    ) at c.writeln.ensures.bytes in
    simp append_assoc at e
