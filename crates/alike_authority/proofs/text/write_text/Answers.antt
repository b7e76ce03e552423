use Rattle.std.proofs.Common.{append_assoc}
use Rattle.alike_authority.specs.AlikeAuthorityTexts.{alike_text}
use Rattle.alike_authority.proofs.text.write_text.Goals as goal

pub returns : goal.returns
unfolding alike_text
returns c =
    let e = simp (
      c.in_ok-write_list.ensures,
      c.in_ok-push_str.ensures.bytes,
      c.in_ok-write_harts.ensures,
      c.in_ok-write_head.ensures,
    ) at c.in_ok-push_str-2.ensures.bytes in
    simp append_assoc at e
