use Rattle.origins.proofs.RunOrigins.{has_origin}
use Rattle.origins.proofs.laws.values_have_origins.Goals as goal

pub returns : goal.returns
returns c = has_origin
