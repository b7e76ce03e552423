use Rattle.forgotten_runs.proofs.OrderLemmas.{legal_kept, run_forgets, run_memory, run_pcc, run_status}
use Rattle.forgotten_runs.proofs.laws.orders_forget.Goals as goal

pub returns-clause-legal : goal.returns-clause-legal
returns-clause-legal c image live s order right = legal_kept live image right s order

pub returns-clause-state : goal.returns-clause-state
returns-clause-state c image live s order right legal = run_forgets live image right s order legal

pub returns-clause-memory : goal.returns-clause-memory
returns-clause-memory c image live s order right legal = run_memory live image right s order legal

pub returns-clause-pcc : goal.returns-clause-pcc
returns-clause-pcc c image live s order hart right legal = run_pcc live image right s order hart legal

pub returns-clause-status : goal.returns-clause-status
returns-clause-status c image live s order hart right legal = run_status live image right s order hart legal
