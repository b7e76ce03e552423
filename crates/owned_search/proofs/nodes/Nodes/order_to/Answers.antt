use Rattle.std.proofs.Common.{◌<◌, ℕ, List, ap, sym, ◌∙◌, subst}
use Rattle.std.specs.Prelude.{length, slice_get}
use Rattle.std.proofs.lemmas.Option.{none-some}
use Rattle.granule_states.specs.Graphs.{GranuleParts}
use Rattle.granule_states.specs.Orders.{order_in, steps_of}
use Rattle.owned_search.proofs.OrderLemmas.{labels_low, order_made}
use Rattle.owned_search.proofs.nodes.Nodes.order_to.Goals as goal

pub orders_of-requires-clause-first : goal.orders_of-requires-clause-first
orders_of-requires-clause-first c i hart there =
    let meant = c.requires.nodes.nodes.meant c.args.number c.requires.there in
    subst (λ (h : GranuleParts). hart < length h.graph.image.harts) (sym c.machine.ensures)
    (labels_low c.args.self.now.graph c.args.self.now.reached c.args.self.now.limit c.requires.nodes c.requires.right
    (λ before after. c.requires.hidden before after) c.args.number meant.0 meant.1 c.in_ok-labels.labels.items c.in_ok-labels.ensures
    i hart (ap (λ (ls : List ℕ). slice_get ls i) (sym c.as_slice.ensures.value) ∙ there))

pub orders_of-requires-clause-later : goal.orders_of-requires-clause-later
orders_of-requires-clause-later c i hart there = absurd (none-some hart there)

pub returns : goal.returns
returns c s is =
    let graph = c.args.self.now.graph in
    order_made graph c.args.self.now.reached c.args.self.now.limit c.requires.nodes c.requires.right
    (λ before after. c.requires.hidden before after) c.args.number s is c.in_ok-labels.labels.items c.in_ok-labels.ensures
    c.in_ok-order.order.items
    (c.in_ok-order.ensures.first
    ∙ (ap (λ (h : GranuleParts). steps_of (order_in h c.as_slice.result.now)) c.machine.ensures
    ∙ ap (λ (ls : List ℕ). steps_of (order_in graph.graph ls)) c.as_slice.ensures.value))
