use Rattle.std.proofs.Common.{refl, arith}
use Rattle.text_numbers.proofs.HexDigits.{digits_ascii, digits_length}
use Rattle.report_lines.proofs.HexDigits.{end_digits}
use Rattle.report_lines.proofs.digits.HexInteger.write.Goals as goal

pub returns-clause-written : goal.returns-clause-written
returns-clause-written c =
    end_digits _ c.args.self.width _ c.args.self.number c.args.self.within refl c.fill_end.ensures

pub returns-clause-ascii : goal.returns-clause-ascii
returns-clause-ascii c = digits_ascii c.args.self.width c.args.self.number

pub returns-clause-short : goal.returns-clause-short
returns-clause-short c = omega (arith, digits_length c.args.self.width c.args.self.number, c.args.self.within)
