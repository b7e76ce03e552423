use Rattle.std.proofs.Common.{ap, subst}
use Rattle.live_registers.specs.LiveSets.{LiveSets}
use Rattle.forgotten_states.specs.Graphs.{ForgottenParts, IsForgottenNumber}
use Rattle.forgotten_states.proofs.GraphLemmas.{forgetting_more, forgetting_on, number_made}
use Rattle.forgotten_states.proofs.graph.ForgottenGraph.forgotten_number.Goals as goal

pub invariant_of-self : goal.invariant_of-self
invariant_of-self c =
    forgetting_on c.self.inside.live.now c.self.inside.graph c.number_hart.new.self c.self.inside.known.items
    c.number_hart.ensures.continues c.self.invariant

pub invariant_of-self-in_err-keep_at : goal.invariant_of-self-in_err-keep_at
invariant_of-self-in_err-keep_at c =
    forgetting_more c.self.inside.live.now c.number_hart.new.self c.self.inside.known.items c.keep_at.new.known.items c.args.hart
    c.in_ok-after.after
    (forgetting_on c.self.inside.live.now c.self.inside.graph c.number_hart.new.self c.self.inside.known.items
    c.number_hart.ensures.continues c.self.invariant)
    (number_made c.args.self.now c.self.inside.live.now c.self.inside.groups c.self.inside.graph c.number_hart.new.self c.self.inside.known.items
    c.self.view_is c.self.invariant c.number_hart.ensures.continues c.args.hart c.in_ok-after.after c.store.result.now c.load_hart.new.hart
    c.forget.new.hart c.requires c.store.ensures c.load_hart.ensures c.forget.ensures c.in_ok-after.ensures.numbered)
    (λ k n at. c.keep_at.ensures k n at)

pub invariant_of-self-2 : goal.invariant_of-self-2
invariant_of-self-2 c =
    forgetting_more c.self.inside.live.now c.number_hart.new.self c.self.inside.known.items c.keep_at.new.known.items c.args.hart
    c.in_ok-after.after
    (forgetting_on c.self.inside.live.now c.self.inside.graph c.number_hart.new.self c.self.inside.known.items
    c.number_hart.ensures.continues c.self.invariant)
    (number_made c.args.self.now c.self.inside.live.now c.self.inside.groups c.self.inside.graph c.number_hart.new.self c.self.inside.known.items
    c.self.view_is c.self.invariant c.number_hart.ensures.continues c.args.hart c.in_ok-after.after c.store.result.now c.load_hart.new.hart
    c.forget.new.hart c.requires c.store.ensures c.load_hart.ensures c.forget.ensures c.in_ok-after.ensures.numbered)
    (λ k n at. c.keep_at.ensures k n at)

pub returns-clause-numbered : goal.returns-clause-numbered
returns-clause-numbered c =
    subst (λ (live : LiveSets). IsForgottenNumber live c.number_hart.new.self.store c.args.hart c.in_ok-after.after)
    (ap (λ (p : ForgottenParts). p.live) c.self.view_is)
    (number_made c.args.self.now c.self.inside.live.now c.self.inside.groups c.self.inside.graph c.number_hart.new.self c.self.inside.known.items
    c.self.view_is c.self.invariant c.number_hart.ensures.continues c.args.hart c.in_ok-after.after c.store.result.now c.load_hart.new.hart
    c.forget.new.hart c.requires c.store.ensures c.load_hart.ensures c.forget.ensures c.in_ok-after.ensures.numbered)
