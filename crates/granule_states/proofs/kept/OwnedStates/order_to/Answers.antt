use Rattle.std.proofs.Common.{◌≡◌, ◌<◌, ℕ, List, ap, sym, ◌∙◌, subst}
use Rattle.std.specs.Prelude.{Some, slice_get}
use Rattle.std.proofs.lemmas.Option.{none-some}
use Rattle.granule_states.specs.Orders.{IsOrderTo, order_in, steps_of}
use Rattle.granule_states.specs.Owned.{OwnedParts, at, count, owned_of}
use Rattle.granule_states.proofs.OrderLemmas.{order_made, trace_low}
use Rattle.granule_states.proofs.kept.OwnedStates.order_to.Goals as goal

pub orders_of-requires-clause-first : goal.orders_of-requires-clause-first
orders_of-requires-clause-first c i hart there =
    let of = c.self.inside in
    let view = owned_of of.graph of.reached of.limit of.owned in
    let below : c.args.number < count view =
    subst (λ (k : OwnedParts). c.args.number < count k) (sym c.self.view_is) c.requires in
    let s = c.self.invariant.search.meant c.args.number below in
    trace_low of.graph of.reached of.limit of.owned c.self.invariant c.args.number s.0 s.1
    c.in_ok-labels.labels.items c.in_ok-labels.ensures i hart
    (ap (λ (ls : List ℕ). slice_get ls i) (sym c.as_slice.ensures.value) ∙ there)

pub orders_of-requires-clause-later : goal.orders_of-requires-clause-later
orders_of-requires-clause-later c i hart there = absurd (none-some hart there)

pub returns : goal.returns
returns c s is =
    let of = c.self.inside in
    let there : at (owned_of of.graph of.reached of.limit of.owned) c.args.number ≡ Some s =
    ap (λ (k : OwnedParts). at k c.args.number) c.self.view_is ∙ is in
    subst (λ (k : OwnedParts). IsOrderTo k.graph s c.in_ok-order.order.items) c.self.view_is
    (order_made of.graph of.reached of.limit of.owned c.self.invariant c.args.number s there
    c.in_ok-labels.labels.items c.in_ok-labels.ensures c.in_ok-order.order.items
    (c.in_ok-order.ensures.first
    ∙ ap (λ (ls : List ℕ). steps_of (order_in of.graph ls)) c.as_slice.ensures.value))
