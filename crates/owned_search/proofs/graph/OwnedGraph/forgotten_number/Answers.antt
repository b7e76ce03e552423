use Rattle.std.proofs.Common.{ap, subst}
use Rattle.live_registers.specs.LiveSets.{LiveSets}
use Rattle.owned_search.specs.Graphs.{ForgettingParts, IsForgottenNumber}
use Rattle.owned_search.proofs.GraphLemmas.{forgetting_more, forgetting_on, number_made}
use Rattle.owned_search.proofs.graph.OwnedGraph.forgotten_number.Goals as goal

pub invariant_of-self : goal.invariant_of-self
invariant_of-self c =
    forgetting_on c.self.inside.live.now c.self.inside.graph c.number_hart.new.self c.self.inside.known.items
    c.number_hart.ensures.learns c.self.invariant

pub invariant_of-self-in_err-keep_at : goal.invariant_of-self-in_err-keep_at
invariant_of-self-in_err-keep_at c =
    forgetting_more c.self.inside.live.now c.number_hart.new.self.graph.store c.self.inside.known.items c.keep_at.new.known.items
    c.args.hart c.in_ok-after.after
    (forgetting_on c.self.inside.live.now c.self.inside.graph c.number_hart.new.self c.self.inside.known.items
    c.number_hart.ensures.learns c.self.invariant)
    (number_made c.self.inside.live.now c.self.inside.graph c.number_hart.new.self c.number_hart.ensures.learns c.args.hart
    c.in_ok-after.after c.store.result.now c.load_hart.new.hart c.forget.new.hart c.store.ensures.store c.load_hart.ensures
    c.forget.ensures c.in_ok-after.ensures.numbered)
    (λ k n at. c.keep_at.ensures k n at)

pub invariant_of-self-2 : goal.invariant_of-self-2
invariant_of-self-2 c =
    forgetting_more c.self.inside.live.now c.number_hart.new.self.graph.store c.self.inside.known.items c.keep_at.new.known.items
    c.args.hart c.in_ok-after.after
    (forgetting_on c.self.inside.live.now c.self.inside.graph c.number_hart.new.self c.self.inside.known.items
    c.number_hart.ensures.learns c.self.invariant)
    (number_made c.self.inside.live.now c.self.inside.graph c.number_hart.new.self c.number_hart.ensures.learns c.args.hart
    c.in_ok-after.after c.store.result.now c.load_hart.new.hart c.forget.new.hart c.store.ensures.store c.load_hart.ensures
    c.forget.ensures c.in_ok-after.ensures.numbered)
    (λ k n at. c.keep_at.ensures k n at)

pub returns-clause-numbered : goal.returns-clause-numbered
returns-clause-numbered c =
    subst (λ (live : LiveSets). IsForgottenNumber live c.number_hart.new.self.graph.store c.args.hart c.in_ok-after.after)
    (ap (λ (p : ForgettingParts). p.live) c.self.view_is)
    (number_made c.self.inside.live.now c.self.inside.graph c.number_hart.new.self c.number_hart.ensures.learns c.args.hart
    c.in_ok-after.after c.store.result.now c.load_hart.new.hart c.forget.new.hart c.store.ensures.store c.load_hart.ensures
    c.forget.ensures c.in_ok-after.ensures.numbered)
