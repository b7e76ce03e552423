use Rattle.hart_order.proofs.GroupedLemmas.{machine_walk}
use Rattle.hart_order.proofs.laws.grouped_walks_are_machine_walks.Goals as goal

pub returns : goal.returns
returns c image sight live groups labels r walk = machine_walk image sight live groups labels r walk
