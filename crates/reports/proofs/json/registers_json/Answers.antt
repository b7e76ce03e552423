use Rattle.std.proofs.Common.{◌-◌, arith}
use Rattle.serde_json.proofs.Views.{view-Object}
use Rattle.reports.proofs.JsonLemmas.{register_put, registers_end}
use Rattle.reports.proofs.json.registers_json.Goals as goal

pub loop-number-preserved : goal.loop-number-preserved
loop-number-preserved c =
    register_put c.args.hart.now c.loop-number.number c.new.result (32 - c.loop-number.number) _ _ _ _ (omega arith)
    c.new.ensures (rw c.register.ensures.value at c.in_ok-put_register.ensures) c.loop-number.invariant

pub returns : goal.returns
returns c =
    rw (view-Object, registers_end c.args.hart.now c.loop-number.number (32 - c.loop-number.number) _ _ (omega arith) c.loop-number.invariant)
