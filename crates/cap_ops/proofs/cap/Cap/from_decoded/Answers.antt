use Rattle.std.proofs.Common.{arith}
use Rattle.cap_ops.proofs.Unpacking.{unpacked_halves}
use Rattle.cap_ops.proofs.cap.Cap.from_decoded.Goals as goal

pub invariant_of-result : goal.invariant_of-result
invariant_of-result c =
    unpacked_halves c.args.tag c.args.upper c.args.addr _ _ _ _ _ c.requires.tagged (omega arith)
    (record {
      base = c.requires.base;
      top = c.requires.top;
      otype = c.fields-parts.ensures.otype;
      permissions = c.permission_field.ensures;
      flag = c.fields-parts.ensures.flag;
    })
