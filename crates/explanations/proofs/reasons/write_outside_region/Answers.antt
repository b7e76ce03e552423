use Rattle.std.proofs.Common.{append_assoc}
use Rattle.explanations.proofs.reasons.write_outside_region.Goals as goal

pub returns : goal.returns
returns c =
    let e = simp (c.in_ok-write_power.ensures, c.in_ok-write_address.ensures) at c.in_ok-write_address-2.ensures in
    simp append_assoc at e
