use Rattle.std.proofs.Common.{arith}
use Rattle.cheri_caps.specs.Structs.{rounded_range}
use Rattle.cheri_caps.proofs.Filling.{fill_more}
use Rattle.cheri_caps.proofs.arrays.cheri_caps_round_of.Goals as goal

pub loop-i-preserved : goal.loop-i-preserved
loop-i-preserved c =
    let filled = fill_more rounded_range c.args.ranges.now c.args.out.now c.loop-i.i (record { base = 0; len = 0 }) (omega arith) (omega arith) in
    cc
