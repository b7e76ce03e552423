use Rattle.origins.proofs.RunOrigins.{operation_from}
use Rattle.origins.proofs.laws.operations_keep_origins.Goals as goal

pub returns : goal.returns
returns c = operation_from
