use Rattle.std.proofs.Common.{rules}
use Rattle.reduced_texts.specs.ReducedTexts.{group_word}
use Rattle.reduced_texts.proofs.words.group_word.Goals as goal

pub returns : goal.returns
unfolding group_word
returns c = search rules
