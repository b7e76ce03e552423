use Rattle.std.proofs.Common.{refl}
use Rattle.interner.specs.Hashes.{hash_of, tag_of}
use Rattle.interner.proofs.hashes.tag_of_word.Goals as goal

pub returns : goal.returns
unfolding tag_of hash_of
returns c = rw c.mixed.ensures refl
