use Rattle.std.proofs.Common.{◌≡◌, ◌∷◌, [], rules}
use Rattle.named_harts.proofs.StackLemmas.{pushed, joined_none, joined_one, joined_two}
use Rattle.named_harts.proofs.named.join_last.Goals as goal

pub returns-in_default : goal.returns-in_default
returns-in_default c joint second formulas are =
    let was : c.args.parts.now.items ≡ [] = search rules in
    let is : c.pop.new.self.items ≡ [] = search rules in
    joined_none joint second formulas c.args.parts.now.items c.pop.new.self.items was is are

pub returns-in_ok-push-in-None : goal.returns-in_ok-push-in-None
returns-in_ok-push-in-None c joint second formulas are =
    let was : c.args.parts.now.items ≡ c.in-Some.second ∷ [] = search rules in
    let is : c.push-in-None.new.self.items ≡ c.in-Some.second ∷ [] = search rules in
    joined_one joint second formulas c.args.parts.now.items c.push-in-None.new.self.items c.in-Some.second was is are

pub returns-in_ok-push-in-Some-pop : goal.returns-in_ok-push-in-Some-pop
returns-in_ok-push-in-Some-pop c joint second formulas are =
    let was : c.args.parts.now.items ≡ pushed (pushed c.pop-2.new.self.items c.in-Some-pop.first) c.in-Some.second =
    search rules in
    let is : c.push.new.self.items ≡ pushed c.pop-2.new.self.items c.joined.result = search rules in
    joined_two joint second formulas c.args.parts.now.items c.push.new.self.items c.pop-2.new.self.items
    c.in-Some-pop.first c.in-Some.second c.joined.result (c.joined.ensures joint) was is are
