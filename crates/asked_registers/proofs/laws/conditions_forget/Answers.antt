use Rattle.asked_registers.proofs.HoldingLemmas.{holds_same}
use Rattle.asked_registers.proofs.laws.conditions_forget.Goals as goal

pub returns : goal.returns
returns c program live s nodes right asked = holds_same program live right s nodes asked
