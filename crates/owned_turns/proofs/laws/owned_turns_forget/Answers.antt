use Rattle.owned_turns.proofs.SearchLemmas.{reached_forgets, walk_found, walks_forget}
use Rattle.owned_turns.proofs.StateLemmas.{turn_forgets}
use Rattle.owned_turns.proofs.laws.owned_turns_forget.Goals as goal

pub returns-clause-turn : goal.returns-clause-turn
returns-clause-turn c image shared sight live s l right hidden =
    turn_forgets image live right shared sight (λ before after. hidden before after) s l

pub returns-clause-walks : goal.returns-clause-walks
returns-clause-walks c image shared sight live s labels right hidden =
    walks_forget image shared sight live right (λ before after. hidden before after) s labels

pub returns-clause-reached : goal.returns-clause-reached
returns-clause-reached c image shared sight live s right hidden reached =
    reached_forgets image shared sight live right (λ before after. hidden before after) s reached

pub returns-clause-labels : goal.returns-clause-labels
returns-clause-labels c image shared sight live labels r right hidden walk =
    walk_found image shared sight live right (λ before after. hidden before after) labels r walk
