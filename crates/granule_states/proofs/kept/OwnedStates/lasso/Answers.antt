use Rattle.std.proofs.Common.{◌≡◌, ℕ, List, ap, sym, ◌∙◌, subst}
use Rattle.std.specs.Prelude.{Some, length, slice_get}
use Rattle.std.proofs.lemmas.Result.{IfOk-weaker}
use Rattle.granule_states.specs.Graphs.{start_in, turn_in}
use Rattle.graph_search.specs.Walks.{IsWalk}
use Rattle.granule_states.specs.Orders.{IsOrderTo, order_in, steps_of, turns_in}
use Rattle.granule_states.specs.Owned.{OwnedParts, at, owned_of}
use Rattle.granule_states.proofs.LoopLemmas.{number_within}
use Rattle.granule_states.proofs.OrderLemmas.{order_made, trace_least, trace_low, walk_low}
use Rattle.granule_states.proofs.kept.OwnedStates.lasso.Goals as goal
use Rattle.loop_search.specs.Verdicts.{IsFoundLoop}

pub witness-requires : goal.witness-requires
witness-requires c =
    let of = c.self.inside in
    let loop = subst (λ (k : OwnedParts). IsFoundLoop (turn_in k.graph) (length k.graph.graph.image.harts) (at k) c.args.found.now)
    (sym c.self.view_is) c.requires in
    number_within of.graph of.reached of.limit of.owned c.self.invariant c.args.found.now.node loop.0 loop.1

pub orders_of-requires-clause-first : goal.orders_of-requires-clause-first
orders_of-requires-clause-first c i hart there =
    let of = c.self.inside in
    let loop = subst (λ (k : OwnedParts). IsFoundLoop (turn_in k.graph) (length k.graph.graph.image.harts) (at k) c.args.found.now)
    (sym c.self.view_is) c.requires in
    trace_low of.graph of.reached of.limit of.owned c.self.invariant c.args.found.now.node loop.0 loop.1
    c.in_ok-first.first.items c.in_ok-first.ensures i hart
    (ap (λ (ls : List ℕ). slice_get ls i) (sym c.as_slice.ensures.value) ∙ there)

pub orders_of-requires-clause-later : goal.orders_of-requires-clause-later
orders_of-requires-clause-later c i hart there =
    let of = c.self.inside in
    let loop = subst (λ (k : OwnedParts). IsFoundLoop (turn_in k.graph) (length k.graph.graph.image.harts) (at k) c.args.found.now)
    (sym c.self.view_is) c.requires in
    walk_low of.graph loop.0 loop.0 c.args.found.now.labels.items (loop.2).0 i hart
    (ap (λ (ls : List ℕ). slice_get ls i) (sym c.as_slice-2.ensures.value) ∙ there)

pub returns-clause-order : goal.returns-clause-order
returns-clause-order c =
    let of = c.self.inside in
    IfOk-weaker c.orders_of.result _ _
    (λ orders told s is.
    let there : at (owned_of of.graph of.reached of.limit of.owned) c.args.found.now.node ≡ Some s =
    ap (λ (k : OwnedParts). at k c.args.found.now.node) c.self.view_is ∙ is in
    subst (λ (k : OwnedParts). IsOrderTo k.graph s orders.0.items) c.self.view_is
    (order_made of.graph of.reached of.limit of.owned c.self.invariant c.args.found.now.node s there
    c.in_ok-first.first.items c.in_ok-first.ensures orders.0.items
    (told ∙ ap (λ (ls : List ℕ). steps_of (order_in of.graph ls)) c.as_slice.ensures.value)))
    c.orders_of.ensures.first

pub returns-clause-cycle : goal.returns-clause-cycle
returns-clause-cycle c =
    let of = c.self.inside in
    IfOk-weaker c.orders_of.result _ _
    (λ orders told s is.
    let there : at (owned_of of.graph of.reached of.limit of.owned) c.args.found.now.node ≡ Some s =
    ap (λ (k : OwnedParts). at k c.args.found.now.node) c.self.view_is ∙ is in
    let walk : IsWalk (turn_in of.graph) (start_in of.graph) c.as_slice.result.now s =
    subst (λ (ls : List ℕ). IsWalk (turn_in of.graph) (start_in of.graph) ls s) (sym c.as_slice.ensures.value)
    (trace_least of.graph of.reached of.limit of.owned c.self.invariant c.args.found.now.node s there
    c.in_ok-first.first.items c.in_ok-first.ensures).0 in
    subst (λ (k : OwnedParts). orders.1.items ≡ steps_of (turns_in k.graph s c.args.found.now.labels.items)) c.self.view_is
    (told s walk ∙ ap (λ (ls : List ℕ). steps_of (turns_in of.graph s ls)) c.as_slice-2.ensures.value))
    c.orders_of.ensures.later
