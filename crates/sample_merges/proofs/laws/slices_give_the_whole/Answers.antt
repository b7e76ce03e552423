use Rattle.sample_merges.proofs.LawLemmas.{slices_give}
use Rattle.sample_merges.proofs.laws.slices_give_the_whole.Goals as goal

pub returns : goal.returns
returns c image drawing properties first rest numbers runs more given all =
    slices_give image drawing properties first rest numbers runs more given all
