use Rattle.sample_merges.proofs.LawLemmas.{one_slice}
use Rattle.sample_merges.proofs.laws.sums_are_one_slice.Goals as goal

pub returns : goal.returns
returns c image drawing properties first rest whole one runs more given all is numbers of_all =
    one_slice image drawing properties first rest whole one runs more given all is numbers of_all
