use Rattle.asm_laws.proofs.Calls.{call_arrives, tail_arrives}
use Rattle.asm_laws.proofs.laws.calls_arrive.Goals as goal

pub returns-clause-call : goal.returns-clause-call
returns-clause-call c = call_arrives

pub returns-clause-tail : goal.returns-clause-tail
returns-clause-tail c = tail_arrives
