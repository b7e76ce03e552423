use Rattle.named_items.proofs.ShownLemmas.{items_same}
use Rattle.named_items.proofs.laws.items_treat_harts_alike.Goals as goal

pub returns : goal.returns
returns c stays items named one other r = items_same stays items (λ hart names. named hart names) one other r
