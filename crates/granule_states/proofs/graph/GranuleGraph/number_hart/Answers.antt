use Rattle.std.proofs.Common.{ap, ◌∙◌}
use Rattle.std.specs.Prelude.{Some}
use Rattle.cheri_model.specs.steps.Hart.{HartState}
use Rattle.granule_states.proofs.TurnLemmas.{hart_is}
use Rattle.granule_states.proofs.graph.GranuleGraph.number_hart.Goals as goal

pub returns-clause-numbered : goal.returns-clause-numbered
returns-clause-numbered c =
    c.in_ok-number.ensures.numbered
    ∙ ap (λ (h : HartState). Some h) (hart_is c.self.inside.graph c.args.hart.now c.self.invariant.seen)
