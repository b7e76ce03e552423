use Rattle.std.proofs.Common.{arith}
use Rattle.report_lines.proofs.HexDigits.{word_ascii, word_length}
use Rattle.report_lines.proofs.value_text.WordInteger.write.Goals as goal

pub returns-clause-ascii : goal.returns-clause-ascii
returns-clause-ascii c = word_ascii c.args.self.0

pub returns-clause-short : goal.returns-clause-short
returns-clause-short c = omega (arith, word_length c.args.self.0)
