use Rattle.std.proofs.Common.{refl, arith, append-nil}
use Rattle.cap_model.specs.values.CapValue.{parts_of}
use Rattle.report_lines.proofs.HexDigits.{bounds_ascii, bounds_length, five_digits, no_more}
use Rattle.report_lines.proofs.value_text.BoundsInteger.write.Goals as goal

pub returns-clause-written : goal.returns-clause-written
returns-clause-written c =
    rw (
      c.put_before.ensures.written,
      c.put_before-end-4.ensures.written,
      c.put_before-end-3.ensures.written,
      c.put_before-end-2.ensures.written,
      c.put_before-end.ensures.written,
      c.word_digits.ensures,
      c.most_digits.ensures,
      c.word_digits-perms.ensures,
      c.from.ensures,
      c.bits.ensures,
      c.perm.ensures.value,
      c.bounds-base.ensures.base,
      c.bounds-base.ensures.top,
      five_digits,
      no_more c.args.buf.now c.told-buf,
      append-nil,
    ) refl

pub returns-clause-ascii : goal.returns-clause-ascii
returns-clause-ascii c = bounds_ascii (parts_of c.args.self.0)

pub returns-clause-short : goal.returns-clause-short
returns-clause-short c = omega (arith, bounds_length (parts_of c.args.self.0))
