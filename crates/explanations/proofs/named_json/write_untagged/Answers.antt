use Rattle.std.proofs.Common.{append_assoc}
use Rattle.explanations.proofs.PlainTexts as plain
use Rattle.explanations.proofs.ValueTexts.{untagged_text}
use Rattle.explanations.proofs.named_json.write_untagged.Goals as goal

pub returns : goal.returns
returns c =
    let e = simp (
      c.in_ok-write_word.ensures,
      c.in_ok-push_str-2.ensures.bytes,
      c.in_ok-write_from.ensures,
      c.in_ok-push_str.ensures.bytes,
    ) at c.in_ok-push_str-3.ensures.bytes in
    let grouped = simp append_assoc at e in
    rw (untagged_text _ _ (plain.word _)) (simp append_assoc grouped)
