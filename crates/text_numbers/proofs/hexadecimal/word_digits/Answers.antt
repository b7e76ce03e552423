use Rattle.text_numbers.proofs.HexDigits.{lanes_are}
use Rattle.text_numbers.proofs.hexadecimal.word_digits.Goals as goal

pub returns : goal.returns
returns c = lanes_are c.args.number
