use Rattle.std.proofs.Common.{ap, ◌∙◌}
use Rattle.std.specs.Prelude.{Some}
use Rattle.cheri_model.specs.runs.Machine.{MachineState}
use Rattle.granule_states.proofs.TurnLemmas.{rest_is}
use Rattle.granule_states.proofs.graph.GranuleGraph.node.Goals as goal

pub returns-clause-node : goal.returns-clause-node
returns-clause-node c =
    c.in_ok-node.ensures.node
    ∙ ap (λ (x : MachineState). Some x) (rest_is c.self.inside.graph (record { harts = c.args.harts.now; memory = c.args.ram.now })
    c.self.invariant.unswept c.self.invariant.seen)
