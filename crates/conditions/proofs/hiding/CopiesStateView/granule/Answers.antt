use Rattle.std.proofs.Common.{sym, ◌∙◌}
use Rattle.conditions.proofs.HidingLemmas.{null_granule}
use Rattle.conditions.proofs.hiding.CopiesStateView.granule.Goals as goal

pub returns : goal.returns
returns c = c.null.ensures ∙ sym (null_granule c.args._number)
