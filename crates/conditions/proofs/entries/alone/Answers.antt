use Rattle.std.proofs.Common.{◌∙◌}
use Rattle.conditions.proofs.MakingLemmas.{last_is}
use Rattle.conditions.proofs.entries.alone.Goals as goal

pub returns : goal.returns
returns c = λ formula is. c.last_alone.ensures ∙ last_is formula c.args.entries.now is
