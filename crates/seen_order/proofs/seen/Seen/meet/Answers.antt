use Rattle.std.proofs.Common.{ap, subst, List}
use mathlib.Core.List.{IsPrefix}
use Rattle.seen_order.specs.declared.links.Link.{Link}
use Rattle.seen_order.specs.Orders.{order}
use Rattle.seen_order.proofs.Prefixes.{prefix_shorter}
use Rattle.seen_order.proofs.Chains.{order_prefix}
use Rattle.seen_order.proofs.seen.Seen.meet.Goals as goal

pub returns : goal.returns
returns g c less =
    let both = c.learn.new.self.log in
    let this : IsPrefix c.self.inside.token.seen.log both = subst (λ (l : List Link). IsPrefix l both) (ap (λ s. s.log) c.again-both.ensures) c.learn.ensures.2 in
    let first = g.J.Order.name.first in
    let mine = order_prefix first c.self.inside.token.seen.log both this in
    let other = order_prefix first c.other.inside.token.seen.log both c.learn.ensures.3 in
    rw (← c.self.view_is, ← c.other.view_is) (prefix_shorter (order first c.self.inside.token.seen.log) (order first c.other.inside.token.seen.log) (order first both) mine other (rw (c.self.view_is, c.other.view_is) less))
