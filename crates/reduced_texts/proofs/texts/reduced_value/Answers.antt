use Rattle.std.proofs.Common.{rules}
use Rattle.reduced_texts.specs.ReducedTexts.{reduced_data}
use Rattle.reduced_texts.proofs.texts.reduced_value.Goals as goal

pub returns : goal.returns
unfolding reduced_data
returns c = search rules
