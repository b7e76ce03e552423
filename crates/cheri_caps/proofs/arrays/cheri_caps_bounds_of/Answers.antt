use Rattle.std.proofs.Common.{arith}
use Rattle.cheri_caps.specs.Structs.{read_bounds}
use Rattle.cheri_caps.proofs.Filling.{fill_more}
use Rattle.cheri_caps.proofs.arrays.cheri_caps_bounds_of.Goals as goal

pub loop-i-preserved : goal.loop-i-preserved
loop-i-preserved c =
    let filled = fill_more read_bounds c.args.words.now c.args.out.now c.loop-i.i (record { addr = 0; upper = 0 }) (omega arith) (omega arith) in
    cc
