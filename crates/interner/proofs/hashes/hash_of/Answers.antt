use Rattle.std.proofs.Common.{rules}
use Rattle.interner.specs.Hashes.{hash_of}
use Rattle.interner.proofs.hashes.hash_of.Goals as goal

pub returns : goal.returns
unfolding hash_of
returns c = search rules
