use Rattle.std.proofs.Common.{ap, arith, length, List, ◌≡◌}
use Rattle.cheri_model.specs.declared.image.HartImage.{HartImage}
use Rattle.states.proofs.SizeLemmas.{sizes_of}
use Rattle.granule_states.proofs.graph.GranuleGraph.new.Goals as goal

pub bounds-harts-0 : goal.bounds-harts-0
bounds-harts-0 c =
    let some = (sizes_of c.args.image c.granules-granules.ensures.formed).harts_some in
    let count : length c.harts.result.now ≡ length c.args.image.harts = ap (λ (l : List HartImage). length l) c.harts.ensures in
    omega arith
