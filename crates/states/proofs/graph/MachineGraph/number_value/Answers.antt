use Rattle.std.proofs.Common.{ap, refl, length, List, ℕ}
use Rattle.states.proofs.KeepLemmas.{graph_stored}
use Rattle.states.proofs.graph.MachineGraph.number_value.Goals as goal

pub invariant_of-self : goal.invariant_of-self
invariant_of-self c =
    graph_stored c.self.inside.image c.self.inside.sweeps.items c.self.inside.sight c.self.inside.store c.self.inside.sites.items
    c.self.inside.steps c.self.inside.ram c.self.inside.row.items c.self.invariant
    c.number_value.new.self c.self.inside.row.items c.number_value.ensures.kept (ap (λ (l : List (List ℕ)). length l) c.number_value.ensures.same_harts) refl
