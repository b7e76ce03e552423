use Rattle.std.proofs.Common.{append_assoc}
use Rattle.explanations.proofs.reasons.write_type_outside.Goals as goal

pub returns : goal.returns
returns c =
    let e = simp (c.in_ok-write_bounds.ensures, c.in_ok-write_address.ensures) at c.in_ok-write_after.ensures in
    simp append_assoc at e
