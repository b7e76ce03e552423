use Rattle.std.proofs.Common.{append_assoc}
use Rattle.explanations.proofs.PlainTexts as plain
use Rattle.explanations.proofs.ValueTexts.{tagged_text}
use Rattle.explanations.proofs.named_json.write_tagged.Goals as goal

pub returns : goal.returns
returns c =
    let e = simp (
      c.in_ok-write_top.ensures,
      c.in_ok-push_str.ensures.bytes,
      c.in_ok-write_permissions.ensures,
      c.in_ok-write_from.ensures,
      c.in_ok-write_base.ensures,
    ) at c.in_ok-write_type_and_word.ensures in
    let grouped = simp append_assoc at e in
    rw (tagged_text _ _ _ _ _ _ (plain.hex 16 _) (plain.hex 5 _) (plain.hex 17 _) (plain.type_name _) (plain.word _)) (simp append_assoc grouped)
