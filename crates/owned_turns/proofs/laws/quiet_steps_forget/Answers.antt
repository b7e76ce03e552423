use Rattle.explore_sights.specs.Sights.{hides}
use Rattle.owned_turns.proofs.StateLemmas.{quiet_forgets}
use Rattle.owned_turns.proofs.laws.quiet_steps_forget.Goals as goal

pub returns : goal.returns
returns c image shared sight live s l right hidden =
    quiet_forgets image live right shared (hides sight) (λ before after. hidden before after) s l
