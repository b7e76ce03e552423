use Rattle.std.proofs.Common.{◌≡◌, length, arith, ap, List}
use Rattle.cheri_model.specs.declared.image.HartImage.{HartImage}
use Rattle.states.proofs.SizeLemmas.{sizes_of}
use Rattle.states.proofs.graph.MachineGraphGraph.label_count.Goals as goal

pub overflow_cast-result : goal.overflow_cast-result
overflow_cast-result c =
    let few = (sizes_of c.self.inside.image c.self.invariant.formed).harts_few in
    let more = c.self.invariant.few in
    let count : length c.harts.result.now ≡ length c.self.inside.image.harts = ap (λ (l : List HartImage). length l) c.harts.ensures in
    omega arith
