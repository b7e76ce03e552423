use Rattle.std.proofs.Common.{ap, sym, subst, arith, length}
use Rattle.std.specs.Prelude.{IsSome}
use Rattle.granule_states.specs.Graphs.{GranuleParts, state_in}
use Rattle.granule_states.proofs.graph.GranuleGraph.note_node.Goals as goal

pub note_step-requires-clause-meant : goal.note_step-requires-clause-meant
note_step-requires-clause-meant c =
    subst (λ (g : GranuleParts). IsSome (state_in g c.args.node.now)) (sym c.loop-hart.invariant) c.requires

pub note_step-requires-clause-hart : goal.note_step-requires-clause-hart
note_step-requires-clause-hart c =
    let same = ap (λ (g : GranuleParts). length g.graph.image.harts) c.loop-hart.invariant in
    omega (arith, same, c.loop-hart-test.true, c.label_count-hart-end.ensures)
