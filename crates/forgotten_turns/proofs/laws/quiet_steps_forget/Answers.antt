use Rattle.std.proofs.Common.{[]}
use Rattle.live_registers.specs.LiveSets.{forgotten_hart}
use Rattle.explore_turns.proofs.RestLemmas.{quiet_is}
use Rattle.forgotten_turns.proofs.ForgettingLemmas.{own_forgets, quiet_forgets}
use Rattle.forgotten_turns.proofs.OrderLemmas.{live_forgets}
use Rattle.forgotten_turns.proofs.laws.quiet_steps_forget.Goals as goal

pub returns-clause-quiet : goal.returns-clause-quiet
returns-clause-quiet c program live hides h right hidden =
    quiet_forgets program (forgotten_hart live) (live_forgets program live right) hides (λ before after. hidden before after) h

pub returns-clause-leads : goal.returns-clause-leads
returns-clause-leads c program live hides h right quiet =
    own_forgets program (forgotten_hart live) (live_forgets program live right) h (quiet_is program [] hides h quiet).runs
