use Rattle.asked_registers.proofs.HoldingLemmas.{all_same}
use Rattle.asked_registers.proofs.laws.items_forget.Goals as goal

pub returns : goal.returns
returns c program live s items right asked = all_same program live right s items asked
