use Rattle.std.proofs.Common.{ap, ◌∙◌}
use Rattle.hart_order.specs.Arrangements.{arranged_state}
use Rattle.state_store.proofs.NumberedLemmas.{some_of}
use Rattle.forgotten_states.specs.Graphs.{ForgottenParts, forgotten_in, state_in}
use Rattle.forgotten_states.proofs.OrderedLemmas.{in_order, ordered_leads, stored, turned}
use Rattle.forgotten_states.proofs.graph.ForgottenGraph.follow.Goals as goal

pub put_in_order-requires-clause-meant : goal.put_in_order-requires-clause-meant
put_in_order-requires-clause-meant c =
    let s = some_of (state_in c.args.self.now c.args.node.now) c.requires.meant in
    let t = turned (state_in c.take_turn.new.self) c.in_ok-take_turn.field-0 c.take_turn.new.to
    (forgotten_in c.args.self.now s.0 c.args.label) c.if-not-branch.false (c.in_ok-take_turn.ensures.value s.0 s.1) in
    stored c.take_turn.new.self.graph c.store.result.now c.take_turn.new.to t.0
    (c.store.ensures ∙ ap (λ (p : ForgottenParts). p.graph.store) c.self.view_is) t.2

pub returns-clause-value : goal.returns-clause-value
returns-clause-value c s is =
    let t = turned (state_in c.take_turn.new.self) c.in_ok-take_turn.field-0 c.take_turn.new.to
    (forgotten_in c.args.self.now s c.args.label) c.if-not-branch.false (c.in_ok-take_turn.ensures.value s is) in
    ordered_leads (arranged_state c.args.self.now.groups) (forgotten_in c.args.self.now s c.args.label) t.0
    (state_in c.take_turn.new.self c.put_in_order.new.row) t.1
    (in_order c.take_turn.new.self.graph c.store.result.now c.self.inside.groups c.args.self.now.groups c.take_turn.new.to t.0
    (c.store.ensures ∙ ap (λ (p : ForgottenParts). p.graph.store) c.self.view_is) t.2
    (ap (λ (p : ForgottenParts). p.groups) c.self.view_is ∙ c.take_turn.ensures.remembers.groups)
    c.put_in_order.new.row c.put_in_order.ensures.row (λ u there. c.put_in_order.ensures.state u there))
