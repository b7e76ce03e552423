use Rattle.std.proofs.Common.{subst, sym}
use Rattle.states.specs.Graphs.{GraphParts, rests_in}
use Rattle.states.specs.Locals.{IsLocalStep}
use Rattle.states.proofs.KeepLemmas.{graph_kept}
use Rattle.states.proofs.graph.MachineGraph.keep_step.Goals as goal

pub invariant_of-self : goal.invariant_of-self
invariant_of-self c =
    graph_kept c.self.inside.image c.self.inside.sweeps.items c.self.inside.sight c.self.inside.store c.self.inside.sites.items
    c.self.inside.steps c.self.inside.ram c.self.inside.row.items c.self.invariant c.keep.new.self
    (record { hart = c.args.hart; value = c.args.value; after = c.args.after })
    (subst (λ (g : GraphParts). IsLocalStep g.image.program (rests_in g) g.store c.args.hart c.args.value c.args.after)
    (sym c.self.view_is) c.requires)
    c.keep.ensures.added
