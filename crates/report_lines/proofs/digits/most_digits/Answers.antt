use Rattle.std.proofs.lemmas.Nat.{and_mask}
use Rattle.report_lines.proofs.HexDigits.{top_digits}
use Rattle.report_lines.proofs.digits.most_digits.Goals as goal

pub returns : goal.returns
returns c =
    top_digits c.args.number _ _ _ _ (and_mask _ 4) (and_mask _ 64) c.hex_digit-digits.ensures
    (rw (c.word_digits.ensures, c.from.ensures) at c.copy_from_slice.ensures.after)
