use Rattle.std.proofs.Common.{◌≡◌, ◌++◌, map, take, drop}
use Rattle.cheri_caps.specs.Structs.{read_bounds}
use Rattle.cheri_caps.proofs.arrays.cheri_caps_bounds_of.Given as goal

abbrev pub invariant-loop-i : goal.invariant-loop-i
invariant-loop-i l = l.out ≡ map read_bounds (take l.i l.words) ++ drop l.i l.initial.out
