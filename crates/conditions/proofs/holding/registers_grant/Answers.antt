use Rattle.std.proofs.Common.{◌∙◌, sym, arith}
use Rattle.cheri_model.specs.runs.Machine.{hart_at}
use Rattle.conditions.proofs.HoldingLemmas.{grant_found, grant_next, grant_none}
use Rattle.conditions.proofs.holding.registers_grant.Goals as goal

pub returns-then-grants : goal.returns-then-grants
returns-then-grants g c =
    grant_found c.args.addr c.args.perms (hart_at (g.V.StateView.state c.args.view.now) c.args.hart) c.loop-number.number c.register_of_hart.result _ (omega arith)
    (rw c.new.ensures at c.register_of_hart.ensures) (sym c.grants.ensures ∙ c.if-grants.true) c.loop-number.invariant

pub loop-number-preserved : goal.loop-number-preserved
loop-number-preserved g c =
    grant_next c.args.addr c.args.perms (hart_at (g.V.StateView.state c.args.view.now) c.args.hart) c.loop-number.number c.register_of_hart.result _ (omega arith)
    (rw c.new.ensures at c.register_of_hart.ensures) (sym c.grants.ensures ∙ c.if-grants.false) c.loop-number.invariant

pub returns : goal.returns
returns g c =
    grant_none c.args.addr c.args.perms (hart_at (g.V.StateView.state c.args.view.now) c.args.hart) c.loop-number.number _ (omega arith) c.loop-number.invariant
