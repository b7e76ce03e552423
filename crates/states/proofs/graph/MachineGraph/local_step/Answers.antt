use Rattle.std.proofs.Common.{subst}
use Rattle.states.specs.Graphs.{GraphParts, rests_in}
use Rattle.states.specs.Locals.{IsLocalStep}
use Rattle.states.proofs.graph.MachineGraph.local_step.Goals as goal

pub returns-in-Some-clause-step : goal.returns-in-Some-clause-step
returns-in-Some-clause-step c =
    subst (λ (g : GraphParts). IsLocalStep g.image.program (rests_in g) c.self.inside.store c.args.hart c.args.value c.in-Some.after)
    c.self.view_is
    (c.self.invariant.tabled.steps_are (record { hart = c.args.hart; value = c.args.value; after = c.in-Some.after })
    c.in-Some.ensures.found)
