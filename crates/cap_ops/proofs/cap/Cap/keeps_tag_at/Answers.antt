use Rattle.std.proofs.Common.{◌≡◌, true, ◌∙◌, sym, arith}
use Rattle.cap_model.specs.results.Addresses.{is_open}
use Rattle.cap_ops.proofs.Exactness.{keeps_tag_test}
use Rattle.cap_ops.proofs.Unpacking.{keeps_tag_inside}
use Rattle.cap_ops.proofs.cap.Cap.keeps_tag_at.Goals as goal

pub returns-clause-value : goal.returns-clause-value
returns-clause-value c =
    let unsealed : is_open c.args.self ≡ true = sym c.is_open.ensures.value ∙ c.if-not-is_open.false in
    keeps_tag_test c.args.self c.representable.result c.args.addr c.is_open.ensures.lawful unsealed
    (rw (c.high.ensures.value, c.addr.ensures.value) at c.representable.ensures.same)

pub returns-then-from-self-clause-value : goal.returns-then-from-self-clause-value
returns-then-from-self-clause-value c =
    let unsealed : is_open c.args.self ≡ true = sym c.is_open.ensures.value ∙ c.if-not-is_open.false in
    let from = c.if-self-addr.true in
    let to = c.if-from-self.true in
    let same = c.from.ensures in
    keeps_tag_inside _ _ _ _ _ _ _ _ _ _ c.self.invariant c.self.view_is c.args.addr unsealed (omega arith) from (omega arith)
