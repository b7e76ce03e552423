use Rattle.hart_exchanges.proofs.HoldingLemmas.{holds_so}
use Rattle.hart_exchanges.proofs.laws.regrouped_harts_hold_the_same.Goals as goal

pub returns : goal.returns
returns c groups state after hart rights like inside holds = holds_so groups state after like hart rights inside holds
