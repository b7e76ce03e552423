use Rattle.std.proofs.Common.{rules}
use Rattle.interner.specs.Hashes.{home_of}
use Rattle.interner.proofs.hashes.home_of.Goals as goal

pub returns-clause-value : goal.returns-clause-value
unfolding home_of
returns-clause-value c = search rules
