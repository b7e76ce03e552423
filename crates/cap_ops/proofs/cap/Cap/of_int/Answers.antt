use Rattle.std.proofs.Common.{arith}
use Rattle.cap_ops.proofs.Unpacking.{unpacked_integer}
use Rattle.cap_ops.proofs.cap.Cap.of_int.Goals as goal

pub invariant_of-result : goal.invariant_of-result
invariant_of-result c = unpacked_integer c.args.number (omega arith)
