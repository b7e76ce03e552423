use Rattle.live_registers.proofs.ForgettingLemmas.{forgets_hart, forgets_memory, forgets_outcome}
use Rattle.live_registers.proofs.laws.steps_forget.Goals as goal

pub returns-clause-memory : goal.returns-clause-memory
returns-clause-memory c = forgets_memory

pub returns-clause-outcome : goal.returns-clause-outcome
returns-clause-outcome c = forgets_outcome

pub returns-clause-hart : goal.returns-clause-hart
returns-clause-hart c = forgets_hart
