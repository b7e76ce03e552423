use Rattle.std.proofs.Common.{arith}
use Rattle.cap_ops.proofs.Unpacking.{moved_unpacked, moved_value}
use Rattle.cap_ops.proofs.cap.Cap.moved.Goals as goal

pub invariant_of-result : goal.invariant_of-result
invariant_of-result c =
    moved_unpacked _ _ _ _ _ _ _ _ _ _ c.self.invariant c.self.view_is c.args.addr (omega arith) c.args.kept c.requires
    _ _ c.bounds_at-base.ensures.base c.bounds_at-base.ensures.top

pub returns : goal.returns
returns c = moved_value _ _ _ _ _ _ _ _ _ _ c.self.invariant c.self.view_is c.args.addr (omega arith) c.args.kept c.requires
