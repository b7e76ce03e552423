use Rattle.std.proofs.Common.{append_assoc}
use Rattle.authority_texts.specs.AuthorityTexts.{head_lines}
use Rattle.authority_texts.proofs.text.write_head.Goals as goal

pub returns : goal.returns
unfolding head_lines
returns c =
    let e = simp (c.in_ok-write_image_line.ensures, c.in_ok-push_str.ensures.bytes) at c.write_states_line.ensures in
    simp append_assoc at e
