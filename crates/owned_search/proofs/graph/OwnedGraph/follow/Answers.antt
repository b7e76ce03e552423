use Rattle.std.proofs.Common.{sym, subst}
use Rattle.std.specs.Prelude.{IsSome}
use Rattle.owned_search.specs.Graphs.{ForgettingParts, state_in}
use Rattle.owned_search.proofs.GraphLemmas.{forgetting_on}
use Rattle.owned_search.proofs.RowLemmas.{led}
use Rattle.owned_search.proofs.graph.OwnedGraph.follow.Goals as goal

pub invariant_of-self : goal.invariant_of-self
invariant_of-self c =
    forgetting_on c.self.inside.live.now c.self.inside.graph c.follow.new.self c.self.inside.known.items
    c.follow.ensures.learns c.self.invariant

pub invariant_of-self-then-not-branch : goal.invariant_of-self-then-not-branch
invariant_of-self-then-not-branch c =
    forgetting_on c.self.inside.live.now c.self.inside.graph c.follow.new.self c.self.inside.known.items
    c.follow.ensures.learns c.self.invariant

pub invariant_of-self-2 : goal.invariant_of-self-2
invariant_of-self-2 c =
    forgetting_on c.self.inside.live.now c.self.inside.graph c.follow.new.self c.self.inside.known.items
    c.follow.ensures.learns c.self.invariant

pub forget_harts-requires : goal.forget_harts-requires
forget_harts-requires c =
    led c.self.inside.graph c.follow.new.self c.args.node.now c.follow.new.to c.args.label
    c.in_ok-follow.field-0 c.if-not-branch.false
    (subst (λ (p : ForgettingParts). IsSome (state_in p c.args.node.now)) (sym c.self.view_is) c.requires.meant)
    (λ s is. c.in_ok-follow.ensures.value s is)
