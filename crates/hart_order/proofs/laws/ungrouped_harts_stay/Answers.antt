use Rattle.hart_order.proofs.PlaceLemmas.{stays_state}
use Rattle.hart_order.proofs.laws.ungrouped_harts_stay.Goals as goal

pub returns : goal.returns
returns c groups none = stays_state groups (λ hart. none hart)
