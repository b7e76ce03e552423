use Rattle.std.proofs.Common.{ap, sym, ◌∙◌}
use Rattle.explore_sights.specs.declared.sights.Sight.{Sight}
use Rattle.explore_sights.specs.Sights.{hides}
use Rattle.granule_states.specs.Graphs.{GranuleParts}
use Rattle.granule_states.proofs.graph.GranuleGraph.hides.Goals as goal

pub returns-in-NoStep : goal.returns-in-NoStep
unfolding hides
returns-in-NoStep c h g first last =
    sym (ap (λ (x : Sight). hides x h g) (sym (ap (λ (p : GranuleParts). p.sight) c.self.view_is) ∙ c.in-NoStep.is))
