use Rattle.owned_turns.proofs.AccessLemmas.{same_asks, same_stores, same_granule}
use Rattle.owned_turns.proofs.laws.accesses_forget.Goals as goal

pub returns-clause-asks : goal.returns-clause-asks
returns-clause-asks c image live h right runs = same_asks image.program live h

pub returns-clause-stores : goal.returns-clause-stores
returns-clause-stores c image live h right runs = same_stores image.program live h

pub returns-clause-granule : goal.returns-clause-granule
returns-clause-granule c image live h right runs = same_granule image live right h runs
