use Rattle.std.proofs.Common.{◌≡◌, ◌-◌, ◌<◌, ◌^◌, length, sym, ◌∙◌, ap, arith}
use Rattle.graph_nodes.specs.Packing.{with_digits, packed}
use Rattle.graph_nodes.proofs.PackingLemmas.{no_first, row_packed}
use Rattle.graph_nodes.proofs.packing.pack.Goals as goal

pub returns-in_err-first-clause-word : goal.returns-in_err-first-clause-word
returns-in_err-first-clause-word c =
    c.from_residual.ensures ∙ sym (no_first c.args.bits c.args.row.now c.in_err-first.ensures.cases)

pub with_digits-requires-clause-room : goal.with_digits-requires-clause-room
with_digits-requires-clause-room c =
    let long = ap length c.in_ok-first.ensures.cases.0 in
    let e : length c.args.row.now - 1 ≡ length c.in_ok-first.digits.now = omega (arith, long) in
    rw e at c.requires.room

pub returns-clause-word : goal.returns-clause-word
unfolding packed
returns-clause-word c =
    c.with_digits.ensures
    ∙ ap (λ first. with_digits c.args.bits first c.in_ok-first.digits.now) c.from.ensures
    ∙ sym (ap (packed c.args.bits) c.in_ok-first.ensures.cases.0)

pub returns-clause-back : goal.returns-clause-back
returns-clause-back c =
    let small : c.in_ok-first.first.now < 2 ^ 32 = omega (arith, c.type_inv.row 0, c.in_ok-first.ensures.cases.0) in
    row_packed c.args.bits c.in_ok-first.first.now c.in_ok-first.digits.now c.args.row.now c.with_digits.result
    c.in_ok-first.ensures.cases.0 small
    (c.with_digits.ensures ∙ ap (λ first. with_digits c.args.bits first c.in_ok-first.digits.now) c.from.ensures)
