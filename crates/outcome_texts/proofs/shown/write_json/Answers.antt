use Rattle.std.proofs.Common.{append_assoc}
use Rattle.outcome_texts.specs.OutcomeParts.{shown_json}
use Rattle.outcome_texts.proofs.shown.write_json.Goals as goal

pub returns : goal.returns
unfolding shown_json
returns c =
    let e = simp (
      c.in_ok-write_rows_json.ensures,
      c.in_ok-push_str.ensures.bytes,
      c.shown_opening.ensures,
      c.in_ok-write_json_head.ensures,
    ) at c.writeln.ensures.bytes in
    simp append_assoc at e
