use Rattle.std.proofs.Common.{arith}
use Rattle.cheri_vectors.proofs.Limits.{power_at_most}
use Rattle.cheri_vectors.proofs.addresses.power_of_two.Goals as goal

pub returns-clause-at_most : goal.returns-clause-at_most
returns-clause-at_most c = let most = power_at_most c.args.e c.requires in omega arith
