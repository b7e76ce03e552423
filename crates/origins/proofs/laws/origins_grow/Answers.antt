use Rattle.origins.proofs.RunOrigins.{origins_none, origins_push}
use Rattle.origins.proofs.laws.origins_grow.Goals as goal

pub returns-clause-opening : goal.returns-clause-opening
returns-clause-opening c = origins_none

pub returns-clause-one_more : goal.returns-clause-one_more
returns-clause-one_more c = origins_push
