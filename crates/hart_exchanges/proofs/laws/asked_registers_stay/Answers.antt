use Rattle.hart_exchanges.proofs.StayLemmas.{hart_stays, sights_stay, state_stays}
use Rattle.hart_exchanges.proofs.laws.asked_registers_stay.Goals as goal

pub returns-clause-hart : goal.returns-clause-hart
returns-clause-hart c image live hart right all = hart_stays image.program live right (λ reg. all reg) hart

pub returns-clause-state : goal.returns-clause-state
returns-clause-state c image live state right all = state_stays image.program live right (λ reg. all reg) state

pub returns-clause-sights : goal.returns-clause-sights
returns-clause-sights c image live sight right all = sights_stay image.program live right (λ reg. all reg) sight
