-- the arguments so far
use Rattle.std.proofs.Common.{◌≡◌, take}
use Rattle.asm_line.proofs.requests.copied.Given as goal

abbrev pub invariant-loop-arg : goal.invariant-loop-arg
invariant-loop-arg l = l.values.items ≡ take l.arg-index l.args
