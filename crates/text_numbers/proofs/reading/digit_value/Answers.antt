use Rattle.std.proofs.Common.{◌<◌, rules, arith}
use Rattle.text_numbers.proofs.DigitTable.{value_of_byte}
use Rattle.text_numbers.proofs.reading.digit_value.Goals as goal

pub returns : goal.returns
returns c =
    let below : c.args.byte < 256 = omega arith in
    rw c.from.ensures (value_of_byte c.digit_values.result.now c.args.byte c.digit_values.ensures (search rules) below)
