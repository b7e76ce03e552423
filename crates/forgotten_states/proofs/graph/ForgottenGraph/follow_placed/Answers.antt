use Rattle.std.proofs.Common.{length, ap, sym, ◌∙◌}
use Rattle.cheri_model.specs.runs.Image.{ImageParts}
use Rattle.state_store.proofs.NumberedLemmas.{some_of}
use Rattle.forgotten_states.specs.Graphs.{ForgottenParts, forgotten_in, state_in}
use Rattle.forgotten_states.proofs.OrderedLemmas.{in_order, places_in_order, stored, turned}
use Rattle.forgotten_states.proofs.graph.ForgottenGraph.follow_placed.Goals as goal

pub arrange_row-requires-clause-meant : goal.arrange_row-requires-clause-meant
arrange_row-requires-clause-meant c =
    let s = some_of (state_in c.args.self.now c.args.node.now) c.requires.meant in
    let t = turned (state_in c.take_turn.new.self) c.in_ok-take_turn.field-0 c.take_turn.new.to
    (forgotten_in c.args.self.now s.0 c.args.label) c.if-not-branch.false (c.in_ok-take_turn.ensures.value s.0 s.1) in
    stored c.take_turn.new.self.graph c.store.result.now c.take_turn.new.to t.0
    (c.store.ensures ∙ ap (λ (p : ForgottenParts). p.graph.store) c.self.view_is) t.2

pub returns-clause-value : goal.returns-clause-value
returns-clause-value c s is =
    let t = turned (state_in c.take_turn.new.self) c.in_ok-take_turn.field-0 c.take_turn.new.to
    (forgotten_in c.args.self.now s c.args.label) c.if-not-branch.false (c.in_ok-take_turn.ensures.value s is) in
    let store = c.store.ensures ∙ ap (λ (p : ForgottenParts). p.graph.store) c.self.view_is in
    let groups = ap (λ (p : ForgottenParts). p.groups) c.self.view_is in
    let harts = ap (λ (i : ImageParts). length i.harts) c.take_turn.ensures.remembers.graph.image in (
      t.0,
      t.1,
      in_order c.take_turn.new.self.graph c.store.result.now c.self.inside.groups c.take_turn.new.self.groups c.take_turn.new.to
          t.0 store t.2 groups c.arrange_row.new.row c.arrange_row.ensures.row
          (λ u there. (c.arrange_row.ensures.state u there).0),
      places_in_order c.take_turn.new.self.graph c.store.result.now c.self.inside.groups c.take_turn.new.self.groups
          c.take_turn.new.to t.0 store t.2 groups c.args.places.now c.arrange_row.new.places (c.requires.places ∙ sym harts)
          (λ u there. (c.arrange_row.ensures.state u there).1),
    )
