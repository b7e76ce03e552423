use Rattle.std.proofs.Common.{ap, ◌∙◌}
use Rattle.cheri_model.specs.instructions.Form.{form_of}
use Rattle.live_registers.proofs.ScanLemmas.{right_first, right_more, right_all}
use Rattle.live_registers.proofs.live.LiveRegisters.is_right.Goals as goal

pub loop-number-init : goal.loop-number-init
loop-number-init c = right_first c.args.program.now c.args.self.now

pub loop-number-preserved : goal.loop-number-preserved
loop-number-preserved c =
    right_more c.args.program.now c.args.self.now c.loop-number.number c.index-program-number.result c.form.result
    (c.form.ensures ∙ ap form_of c.index-program-number.is)
    (c.is_right_before.ensures c.anywhere-anywhere.ensures c.if-not-is_right_before.false)
    c.loop-number.invariant

pub returns : goal.returns
returns c =
    λ t. right_all c.args.program.now c.args.self.now c.loop-number.number c.loop-number-test.false
    (c.has_asked.ensures c.if-not-has_asked.false) c.loop-number.invariant
