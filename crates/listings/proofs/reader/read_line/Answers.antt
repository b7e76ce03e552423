use Rattle.std.proofs.Common.{arith}
use Rattle.std.proofs.lemmas.Grind.{common_steps}
use Rattle.listings.specs.Meaning.{line_meaning}
use Rattle.listings.proofs.reader.read_line.Goals as goal

pub returns-then-not-is_plain : goal.returns-then-not-is_plain
unfolding line_meaning
returns-then-not-is_plain c = grind (arith, common_steps)

pub returns : goal.returns
unfolding line_meaning
returns c = grind (arith, common_steps)
