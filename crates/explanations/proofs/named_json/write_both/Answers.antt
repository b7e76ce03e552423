use Rattle.std.proofs.Common.{append_assoc}
use Rattle.explanations.proofs.ValueTexts.{both_text}
use Rattle.explanations.proofs.named_json.write_both.Goals as goal

pub returns : goal.returns
returns c =
    let e = simp (
      c.in_ok-write_member-2.ensures,
      c.in_ok-write_member.ensures,
    ) at c.in_ok-push_str.ensures.bytes in
    let grouped = simp append_assoc at e in
    rw both_text grouped
