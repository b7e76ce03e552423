use Rattle.live_registers.specs.LiveSets.{forgotten_hart}
use Rattle.forgotten_turns.proofs.ForgettingLemmas.{forgotten_rests, rest_forgets, steps_forget}
use Rattle.forgotten_turns.proofs.OrderLemmas.{live_forgets}
use Rattle.forgotten_turns.proofs.laws.rests_forget.Goals as goal

pub returns-clause-steps : goal.returns-clause-steps
returns-clause-steps c program live hides most h right hidden =
    steps_forget program (forgotten_hart live) (live_forgets program live right) hides (λ before after. hidden before after) most h

pub returns-clause-same : goal.returns-clause-same
returns-clause-same c program live hides most h right hidden =
    rest_forgets program (forgotten_hart live) (live_forgets program live right) hides (λ before after. hidden before after) most h

pub returns-clause-rests : goal.returns-clause-rests
returns-clause-rests c program live hides most h right hidden =
    forgotten_rests program (forgotten_hart live) (live_forgets program live right) hides (λ before after. hidden before after) most h
