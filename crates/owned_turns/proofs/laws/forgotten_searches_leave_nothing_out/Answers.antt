use Rattle.owned_turns.proofs.SearchLemmas.{all_owned}
use Rattle.owned_turns.proofs.laws.forgotten_searches_leave_nothing_out.Goals as goal

pub returns : goal.returns
returns c image shared owner sight live right hidden owned =
    all_owned image shared sight live right (λ before after. hidden before after) owner owned
