use Rattle.std.proofs.Common.{refl}
use Rattle.interner.specs.Hashes.{tag_of}
use Rattle.interner.proofs.hashes.tag_of.Goals as goal

pub returns : goal.returns
unfolding tag_of
returns c = rw c.hash_of.ensures refl
