use Rattle.std.proofs.Common.{arith}
use Rattle.explanations.proofs.PieceLemmas.{from_ascii, from_length, from_written}
use Rattle.explanations.proofs.pieces.FromRegisterInteger.write.Goals as goal

pub returns-clause-written : goal.returns-clause-written
returns-clause-written c =
    from_written c.args.self.hart c.args.self.number _ _ c.write_digits-number.result c.put_before-end.result c.write_digits-hart.result c.put_before.result
    c.args.buf.now c.write_digits-number.new.buf c.put_before-end.new.buf c.write_digits-hart.new.buf c.put_before.new.buf
    c.from-2.ensures c.from.ensures c.told-buf c.write_digits-number.ensures.written c.put_before-end.ensures.written
    c.write_digits-hart.ensures.written c.put_before.ensures.written

pub returns-clause-ascii : goal.returns-clause-ascii
returns-clause-ascii c = from_ascii c.args.self.hart c.args.self.number (omega arith) (omega arith)

pub returns-clause-short : goal.returns-clause-short
returns-clause-short c = from_length c.args.self.hart c.args.self.number (omega arith) (omega arith)
