use Rattle.std.proofs.Common.{arith, ◌∙◌}
use Rattle.cap_model.proofs.Results.AddressResults.{set_bounds-result}
use Rattle.cap_ops.proofs.Narrowed.{narrowed, set_bounds_rounding}
use Rattle.cap_ops.proofs.cap.Cap.set_bounds.Goals as goal

pub rounded_bounds-requires-clause-base : goal.rounded_bounds-requires-clause-base
rounded_bounds-requires-clause-base c stays =
    rw (c.addr-addr.ensures.integer, c.from.ensures) at c.with_rounded_fields-upper.ensures.base
    ∙ (narrowed c.args.self _ _ _ c.args.len _ _ (set_bounds-result c.args.self c.args.len c.may_narrow-kept.ensures.lawful (omega arith)) (set_bounds_rounding c.args.self c.args.len)
    c.may_narrow-kept.ensures.value
    (rw (c.high.ensures.value, c.addr-addr.ensures.integer, c.from.ensures) at c.with_rounded_fields-upper.ensures.fields) c.addr-addr.ensures.bits).base stays

pub rounded_bounds-requires-clause-top : goal.rounded_bounds-requires-clause-top
rounded_bounds-requires-clause-top c stays =
    rw (c.addr-addr.ensures.integer, c.from.ensures) at c.with_rounded_fields-upper.ensures.top
    ∙ (narrowed c.args.self _ _ _ c.args.len _ _ (set_bounds-result c.args.self c.args.len c.may_narrow-kept.ensures.lawful (omega arith)) (set_bounds_rounding c.args.self c.args.len)
    c.may_narrow-kept.ensures.value
    (rw (c.high.ensures.value, c.addr-addr.ensures.integer, c.from.ensures) at c.with_rounded_fields-upper.ensures.fields) c.addr-addr.ensures.bits).top stays

pub from_decoded-requires-clause-tagged : goal.from_decoded-requires-clause-tagged
from_decoded-requires-clause-tagged c =
    (narrowed c.args.self _ _ _ c.args.len _ _ (set_bounds-result c.args.self c.args.len c.may_narrow-kept.ensures.lawful (omega arith)) (set_bounds_rounding c.args.self c.args.len)
    c.may_narrow-kept.ensures.value
    (rw (c.high.ensures.value, c.addr-addr.ensures.integer, c.from.ensures) at c.with_rounded_fields-upper.ensures.fields) c.addr-addr.ensures.bits).tagged

pub returns : goal.returns
returns c =
    c.from_decoded.ensures
    ∙ (narrowed c.args.self _ _ _ c.args.len _ _ (set_bounds-result c.args.self c.args.len c.may_narrow-kept.ensures.lawful (omega arith)) (set_bounds_rounding c.args.self c.args.len)
    c.may_narrow-kept.ensures.value
    (rw (c.high.ensures.value, c.addr-addr.ensures.integer, c.from.ensures) at c.with_rounded_fields-upper.ensures.fields) c.addr-addr.ensures.bits).value
