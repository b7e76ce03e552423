use Rattle.hart_order.proofs.GroupedLemmas.{same_start, same_turn}
use Rattle.hart_order.proofs.laws.ungrouped_turns_are_forgotten_turns.Goals as goal

pub returns-clause-start : goal.returns-clause-start
returns-clause-start c image sight live groups none = same_start groups (λ hart. none hart) image sight live

pub returns-clause-turns : goal.returns-clause-turns
returns-clause-turns c image sight live groups none s label = same_turn groups (λ hart. none hart) image sight live s label
