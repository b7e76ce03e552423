use Rattle.forgotten_runs.proofs.OperationLemmas.{state_twice, count_kept, memory_kept, pcc_kept, status_kept, register_kept}
use Rattle.forgotten_runs.proofs.laws.forgotten_states_keep.Goals as goal

pub returns-clause-twice : goal.returns-clause-twice
returns-clause-twice c = state_twice

pub returns-clause-count : goal.returns-clause-count
returns-clause-count c = count_kept

pub returns-clause-memory : goal.returns-clause-memory
returns-clause-memory c = memory_kept

pub returns-clause-pcc : goal.returns-clause-pcc
returns-clause-pcc c = pcc_kept

pub returns-clause-status : goal.returns-clause-status
returns-clause-status c = status_kept

pub returns-clause-asked : goal.returns-clause-asked
returns-clause-asked c program live s hart reg right held = register_kept live program s hart reg right held
