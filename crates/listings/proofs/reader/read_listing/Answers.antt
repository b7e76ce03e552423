use Rattle.std.proofs.Common.{arith}
use Rattle.std.proofs.lemmas.Grind.{common_steps}
use Rattle.listings.specs.Meaning.{listing_meaning}
use Rattle.listings.proofs.reader.read_listing.Goals as goal

pub returns : goal.returns
unfolding listing_meaning
returns c = grind (arith, common_steps)
