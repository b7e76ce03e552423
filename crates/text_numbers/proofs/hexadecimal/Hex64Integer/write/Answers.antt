use Rattle.text_numbers.proofs.HexDigits.{digits_ascii}
use Rattle.text_numbers.proofs.hexadecimal.Hex64Integer.write.Goals as goal

pub returns-clause-ascii : goal.returns-clause-ascii
returns-clause-ascii c = digits_ascii 16 c.args.self.0
