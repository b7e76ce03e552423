use Rattle.forgotten_runs.proofs.OperationLemmas.{may_kept, memory_after, entry_kept, after_forgets}
use Rattle.forgotten_runs.proofs.laws.operations_forget.Goals as goal

pub returns-clause-may : goal.returns-clause-may
returns-clause-may c = may_kept

pub returns-clause-memory : goal.returns-clause-memory
returns-clause-memory c image live s op right may = memory_after live image right s op may

pub returns-clause-entry : goal.returns-clause-entry
returns-clause-entry c image live s hart right may = entry_kept live image right s hart may

pub returns-clause-state : goal.returns-clause-state
returns-clause-state c image live s op right may = after_forgets live image right s op may
