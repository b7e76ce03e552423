use Rattle.std.proofs.Common.{◌≡◌, ap, ◌∙◌, subst}
use Rattle.std.specs.Prelude.{[], Option, Some}
use Rattle.cheri_model.specs.runs.Machine.{MachineState}
use Rattle.graph_search.specs.Graphs.{LeadsTo}
use Rattle.schedules.specs.Schedules.{next}
use Rattle.states.specs.Graphs as plain
use Rattle.granule_states.specs.Graphs.{GranuleParts}
use Rattle.granule_states.proofs.TurnLemmas.{steps_of}
use Rattle.granule_states.proofs.graph.GranuleGraph.take_step.Goals as goal

pub returns-clause-value : goal.returns-clause-value
returns-clause-value c s is =
    let g = c.self.inside.graph in
    let here : plain.state_in g c.args.node.now ≡ Some s =
    ap (λ (p : GranuleParts). plain.state_in p.graph c.args.node.now) c.self.view_is ∙ is in
    subst (λ (o : Option MachineState). LeadsTo (plain.state_in c.follow.new.self) c.in_ok-leads.leads c.follow.new.to o)
    (steps_of g s c.args.label c.self.invariant.unswept c.self.invariant.seen
    ∙ ap (λ (p : GranuleParts). next p.graph.image [] s c.args.label) c.self.view_is)
    (c.in_ok-leads.ensures.value s here)
