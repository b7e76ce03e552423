use Rattle.own_granules.proofs.SharedLemmas.{same_rest, shared_owned}
use Rattle.own_granules.proofs.laws.shared_memory_is_not_touched.Goals as goal

pub returns-clause-owned : goal.returns-clause-owned
returns-clause-owned c = shared_owned

pub returns-clause-rests : goal.returns-clause-rests
returns-clause-rests c = same_rest
