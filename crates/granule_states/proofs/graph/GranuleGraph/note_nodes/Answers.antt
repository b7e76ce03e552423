use Rattle.std.proofs.Common.{◌<◌, ap, sym, subst, arith, length}
use Rattle.std.specs.Prelude.{IsSome, Option, option_and_then}
use Rattle.cheri_model.specs.runs.Machine.{MachineState}
use Rattle.granule_states.specs.Graphs.{GranuleParts, state_in}
use Rattle.granule_states.proofs.graph.GranuleGraph.note_nodes.Goals as goal

pub note_node-requires : goal.note_node-requires
note_node-requires c =
    let low : c.loop-number.number < length c.args.reached.now.nodes = omega (arith, c.loop-number-test.true, c.len-number-end.ensures) in
    subst (λ (g : GranuleParts). IsSome (state_in g c.read.result.now)) (sym c.loop-number.invariant)
    (subst (λ (o : Option MachineState). IsSome o) (ap (option_and_then (state_in c.args.self.now)) c.read.ensures)
    (c.requires.meant c.loop-number.number low))
