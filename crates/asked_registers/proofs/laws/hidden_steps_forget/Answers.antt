use Rattle.asked_registers.proofs.HidingLemmas.{hides_same}
use Rattle.asked_registers.proofs.laws.hidden_steps_forget.Goals as goal

pub returns : goal.returns
returns c program live nodes before after right asked = hides_same program live right before after nodes asked
