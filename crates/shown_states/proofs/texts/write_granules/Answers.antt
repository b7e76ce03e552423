use Rattle.std.proofs.Common.{◌<◌, ◌≤◌, length, arith}
use Rattle.cheri_model.specs.steps.Memory.{granule_at}
use Rattle.report_lines.specs.Lines.{granule_line}
use Rattle.report_lines.proofs.Items.{numbered_step, numbered_end}
use Rattle.shown_states.proofs.texts.write_granules.Goals as goal

pub loop-number-preserved : goal.loop-number-preserved
unfolding granule_at
loop-number-preserved c =
    let room : c.loop-number.number < length c.args.ram.now = omega arith in
    numbered_step granule_line c.args.ram.now c.loop-number.number _ _ _ _ _ room c.granule.ensures.value
    c.in_ok-write_granule_line.ensures c.loop-number.invariant

pub returns : goal.returns
returns c =
    let ended : length c.args.ram.now ≤ c.loop-number.number = omega arith in
    numbered_end granule_line c.args.ram.now c.loop-number.number _ _ ended c.loop-number.invariant
