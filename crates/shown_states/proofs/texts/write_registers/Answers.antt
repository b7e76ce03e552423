use Rattle.std.proofs.Common.{◌-◌, arith}
use Rattle.reports.proofs.ReportLines.{register_step, register_end}
use Rattle.shown_states.proofs.texts.write_registers.Goals as goal

pub loop-number-preserved : goal.loop-number-preserved
loop-number-preserved c =
    register_step c.args.hart.now c.loop-number.number c.new.result (32 - c.loop-number.number) _ _ _ _ (omega arith)
    c.new.ensures (rw c.register.ensures.value at c.in_ok-write_register_line.ensures) c.loop-number.invariant

pub returns : goal.returns
returns c =
    register_end c.args.hart.now c.loop-number.number (32 - c.loop-number.number) _ _ (omega arith) c.loop-number.invariant
