use Rattle.std.proofs.Common.{◌*◌, ap, ◌∙◌}
use Rattle.state_store.specs.Stores.{Stored}
use Rattle.granule_states.specs.Graphs.{GranuleParts}
use Rattle.granule_states.proofs.graph.GranuleGraph.store.Goals as goal

pub returns-clause-size : goal.returns-clause-size
returns-clause-size c =
    ap (λ (st : Stored). 16 * st.granules) c.store.ensures
    ∙ (c.self.invariant.granules ∙ ap (λ (p : GranuleParts). p.graph.image.ram) c.self.view_is)
