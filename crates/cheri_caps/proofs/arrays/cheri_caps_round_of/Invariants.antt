use Rattle.std.proofs.Common.{◌≡◌, ◌++◌, map, take, drop}
use Rattle.cheri_caps.specs.Structs.{rounded_range}
use Rattle.cheri_caps.proofs.arrays.cheri_caps_round_of.Given as goal

abbrev pub invariant-loop-i : goal.invariant-loop-i
invariant-loop-i l = l.out ≡ map rounded_range (take l.i l.ranges) ++ drop l.i l.initial.out
