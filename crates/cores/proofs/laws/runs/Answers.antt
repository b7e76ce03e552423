use Rattle.cores.proofs.RunLemmas.{take_all, are_replays}
use Rattle.cores.proofs.laws.runs.Goals as goal

pub returns-clause-taken : goal.returns-clause-taken
returns-clause-taken c = take_all

pub returns-clause-replays : goal.returns-clause-replays
returns-clause-replays c = are_replays
