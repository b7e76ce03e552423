use Rattle.forgotten_turns.proofs.OrderLemmas.{reached_forgets, reaches_forgotten, turn_forgets, walk_forgets}
use Rattle.forgotten_turns.proofs.laws.turns_forget.Goals as goal

pub returns-clause-turn : goal.returns-clause-turn
returns-clause-turn c image sight live s label right hidden =
    turn_forgets image sight live right (λ before after. hidden before after) s label

pub returns-clause-walks : goal.returns-clause-walks
returns-clause-walks c image sight live s labels right hidden =
    walk_forgets image sight live right (λ before after. hidden before after) s labels

pub returns-clause-reached : goal.returns-clause-reached
returns-clause-reached c image sight live s right hidden reached =
    reached_forgets image sight live right (λ before after. hidden before after) s reached

pub returns-clause-reaches : goal.returns-clause-reaches
returns-clause-reaches c image sight live r right hidden reached =
    reaches_forgotten image sight live right (λ before after. hidden before after) r reached
