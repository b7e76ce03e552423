use Rattle.std.proofs.Common.{append_assoc}
use Rattle.explanations.specs.Reasons.{why_text}
use Rattle.explanations.proofs.reasons.write_type_above.Goals as goal

pub returns : goal.returns
unfolding why_text
returns c =
    let e = simp c.in_ok-write_address.ensures at c.in_ok-push_str.ensures.bytes in
    simp append_assoc at e
