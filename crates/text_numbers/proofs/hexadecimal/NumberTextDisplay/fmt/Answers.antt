use Rattle.text_numbers.proofs.NumberTexts.{one_word, two_words}
use Rattle.text_numbers.proofs.hexadecimal.NumberTextDisplay.fmt.Goals as goal

pub returns-then-upper-eq0-clause-writes : goal.returns-then-upper-eq0-clause-writes
returns-then-upper-eq0-clause-writes g c =
    rw (
      c.in_radix.ensures,
      one_word c.args.self.now.0 c.words_of-upper.result.0 c.words_of-upper.result.1 c.words_of-upper.ensures.upper
          c.words_of-upper.ensures.lower c.if-upper-eq0.true,
    ) at c.write.ensures.writes

pub returns-clause-writes : goal.returns-clause-writes
returns-clause-writes g c =
    rw (
      c.in_radix-2.ensures,
      two_words c.args.self.now.0 c.words_of-upper.result.0 c.words_of-upper.result.1 c.words_of-upper.ensures.number
          c.words_of-upper.ensures.upper c.words_of-upper.ensures.lower c.if-upper-eq0.false,
    ) at c.write-2.ensures.writes
