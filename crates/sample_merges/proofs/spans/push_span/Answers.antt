use Rattle.std.proofs.Common.{◌≡◌, ◌∷◌, ◌++◌, [], rules}
use Rattle.sample_merges.proofs.SpanLemmas.{joined_first, last_below}
use Rattle.sample_merges.proofs.spans.push_span.Goals as goal

pub push_both-requires-clause-later : goal.push_both-requires-clause-later
push_both-requires-clause-later c =
    let parts : c.args.spans.now.items ≡ c.pop.new.self.items ++ c.in-Some.last ∷ [] = search rules in
    last_below c.args.spans.now.items c.pop.new.self.items c.in-Some.last c.args.span.first parts c.requires.spans c.requires.later

pub returns-in_ok-push-in-None : goal.returns-in_ok-push-in-None
returns-in_ok-push-in-None c =
    let none : c.args.spans.now.items ≡ [] = search rules in
    let items : c.push.new.self.items ≡ c.args.span ∷ [] = search rules in
    rw (none, items) (joined_first c.args.span c.requires.some)
