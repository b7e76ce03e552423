use Rattle.std.proofs.Common.{append_assoc}
use Rattle.explanations.proofs.reasons.write_power.Goals as goal

pub returns : goal.returns
returns c =
    let e = simp (c.format.ensures.text, c.in_ok-push_str.ensures.bytes) at c.in_ok-push_str-2.ensures.bytes in
    simp append_assoc at e
