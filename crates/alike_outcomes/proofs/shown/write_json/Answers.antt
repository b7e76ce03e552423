use Rattle.std.proofs.Common.{append_assoc}
use Rattle.alike_outcomes.specs.AlikeTexts.{alike_shown_json}
use Rattle.alike_outcomes.proofs.shown.write_json.Goals as goal

pub returns : goal.returns
unfolding alike_shown_json
returns c =
    let e = simp (
      c.in_ok-write_rows_json.ensures,
      c.in_ok-push_str.ensures.bytes,
      c.in_ok-write_reduced_member.ensures,
      c.in_ok-write_json_head.ensures,
    ) at c.writeln.ensures.bytes in
    simp append_assoc at e
