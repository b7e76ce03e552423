use Rattle.std.proofs.Common.{◌≡◌, ◌∷◌, ◌++◌, ◌+◌, ◌<◌, [], rules, arith}
use Rattle.sample_merges.proofs.SpanLemmas.{grown, joined_apart, joined_grown}
use Rattle.sample_merges.proofs.spans.push_both.Goals as goal

pub returns-in_ok-push : goal.returns-in_ok-push
returns-in_ok-push c =
    let items : c.push.new.self.items ≡ c.args.spans.now.items ++ grown c.args.last c.args.span ∷ [] = search rules in
    rw items (joined_grown c.args.spans.now.items c.args.last c.args.span c.requires.spans c.if-last-span.true c.requires.some)

pub returns-in_ok-push-3 : goal.returns-in_ok-push-3
returns-in_ok-push-3 c =
    let one : c.push-else-last-span.new.self.items ≡ c.args.spans.now.items ++ c.args.last ∷ [] = search rules in
    let items : c.push-else-last-span-2.new.self.items ≡ c.push-else-last-span.new.self.items ++ c.args.span ∷ [] = search rules in
    let gap : c.args.last.last + 1 < c.args.span.first = omega (arith, c.if-last-span.false, c.requires.later) in
    rw (items, one) (joined_apart c.args.spans.now.items c.args.last c.args.span c.requires.spans gap c.requires.some)
