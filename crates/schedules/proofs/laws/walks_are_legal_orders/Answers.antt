use Rattle.schedules.proofs.WalkLemmas.{walk_legal, legal_walk}
use Rattle.schedules.proofs.laws.walks_are_legal_orders.Goals as goal

pub returns-clause-legal : goal.returns-clause-legal
returns-clause-legal c = walk_legal

pub returns-clause-walk : goal.returns-clause-walk
returns-clause-walk c = legal_walk
