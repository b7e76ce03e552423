use Rattle.std.proofs.Common.{ap, arith, length}
use Rattle.sample_tallies.proofs.TallyLemmas.{few_harts}
use Rattle.sample_slices.proofs.again.Again.tally_of.Goals as goal

pub of_claims-requires : goal.of_claims-requires
of_claims-requires c =
    let same = ap length c.harts-harts.ensures in
    let few = few_harts c.image-image.result.now c.granules-granules.ensures.formed in
    omega arith
