use Rattle.schedules.proofs.WalkLemmas.{legal_labels}
use Rattle.schedules.proofs.laws.legal_orders_have_labels.Goals as goal

pub returns : goal.returns
returns c = legal_labels
