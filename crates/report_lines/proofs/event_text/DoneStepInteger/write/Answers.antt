use Rattle.std.proofs.Common.{refl, arith}
use Rattle.report_lines.proofs.DoneSteps.{done_ascii, done_length}
use Rattle.report_lines.proofs.HexDigits.{no_more}
use Rattle.report_lines.proofs.event_text.DoneStepInteger.write.Goals as goal

pub returns-clause-written : goal.returns-clause-written
returns-clause-written c =
    rw (
      c.write_digits.ensures.written,
      c.put_before-end-4.ensures.written,
      c.write_digits-hart.ensures.written,
      c.put_before-end-3.ensures.written,
      c.put_before-end-2.ensures.written,
      c.put_before-end.ensures.written,
      c.word_digits.ensures,
      c.from.ensures,
      no_more c.args.buf.now c.told-buf,
    ) refl

pub returns-clause-ascii : goal.returns-clause-ascii
returns-clause-ascii c = done_ascii c.args.self.number c.args.self.hart c.args.self.pc (omega arith) (omega arith)

pub returns-clause-short : goal.returns-clause-short
returns-clause-short c = done_length c.args.self.number c.args.self.hart c.args.self.pc (omega arith) (omega arith)
