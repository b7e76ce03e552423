use Rattle.std.proofs.Common.{◌≡◌, ap, sym, ◌∙◌}
use Rattle.std.specs.Prelude.{[], Some}
use Rattle.schedules.specs.Schedules.{next}
use Rattle.state_store.proofs.NumberedLemmas.{some_of}
use Rattle.states.specs.Graphs as plain
use Rattle.states.proofs.NodeLemmas.{is_some}
use Rattle.granule_states.specs.Graphs.{GranuleParts, state_in}
use Rattle.granule_states.proofs.TurnLemmas.{edge_there, learns_of, no_edge, parts, turn_there}
use Rattle.granule_states.proofs.graph.GranuleGraph.follow.Goals as goal

pub settle-requires-clause-meant : goal.settle-requires-clause-meant
settle-requires-clause-meant c =
    let g = c.self.inside.graph in
    let s = some_of (state_in c.args.self.now c.args.node.now) c.requires.meant in
    let here : plain.state_in g c.args.node.now ≡ Some s.0 =
    ap (λ (p : GranuleParts). plain.state_in p.graph c.args.node.now) c.self.view_is ∙ s.1 in
    let t = edge_there g c.follow.new.self c.follow.new.to s.0 c.args.label c.in_ok-follow.field-0 c.self.invariant.unswept
    c.self.invariant.seen c.if-not-branch.false (c.in_ok-follow.ensures.value s.0 here) in
    is_some (plain.state_in c.follow.new.self c.follow.new.to) t.0 t.2

pub returns-then-not-branch-clause-value : goal.returns-then-not-branch-clause-value
returns-then-not-branch-clause-value c s is =
    let g = c.self.inside.graph in
    let here : plain.state_in g c.args.node.now ≡ Some s = ap (λ (p : GranuleParts). plain.state_in p.graph c.args.node.now) c.self.view_is ∙ is in
    no_edge c.self.inside.graph c.follow.new.self c.self.inside.sight c.self.inside.shared.items c.args.self.now c.follow.new.to s c.args.label
    c.in_ok-follow.field-0 c.self.view_is c.self.invariant.unswept c.self.invariant.seen c.if-not-branch.true
    (c.in_ok-follow.ensures.value s here)

pub returns-clause-value : goal.returns-clause-value
returns-clause-value c s is =
    let g = c.self.inside.graph in
    let here : plain.state_in g c.args.node.now ≡ Some s = ap (λ (p : GranuleParts). plain.state_in p.graph c.args.node.now) c.self.view_is ∙ is in
    let t = edge_there g c.follow.new.self c.follow.new.to s c.args.label c.in_ok-follow.field-0 c.self.invariant.unswept
    c.self.invariant.seen c.if-not-branch.false (c.in_ok-follow.ensures.value s here) in
    turn_there c.args.self.now (parts c.follow.new.self c.self.inside.sight c.self.inside.shared.items) c.settle.new.self
    (learns_of c.args.self.now g c.follow.new.self c.self.inside.sight c.self.inside.shared.items c.self.view_is c.follow.ensures.continues)
    c.settle.new.row s t.0 c.args.label c.requires.labelled
    (ap (λ (p : GranuleParts). next p.graph.image [] s c.args.label) (sym c.self.view_is) ∙ t.1)
    (c.in_ok-settle.ensures.rest t.0 t.2)
