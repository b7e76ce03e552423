use Rattle.std.proofs.Common.{◌≡◌, [], rules}
use Rattle.named_harts.proofs.StackLemmas.{pushed, counted_none, counted_one}
use Rattle.named_harts.proofs.named.count_last.Goals as goal

pub returns-in_default : goal.returns-in_default
returns-in_default c comparison number formulas are =
    let was : c.args.parts.now.items ≡ [] = search rules in
    let is : c.pop.new.self.items ≡ [] = search rules in
    counted_none comparison number formulas c.args.parts.now.items c.pop.new.self.items was is are

pub returns-in_ok-push : goal.returns-in_ok-push
returns-in_ok-push c comparison number formulas are =
    let was : c.args.parts.now.items ≡ pushed c.pop.new.self.items c.in-Some.part = search rules in
    let is : c.push.new.self.items ≡ pushed c.pop.new.self.items c.counted.result = search rules in
    counted_one comparison number formulas c.args.parts.now.items c.push.new.self.items c.pop.new.self.items
    c.in-Some.part c.counted.result (λ formula. c.counted.ensures formula comparison number) was is are
