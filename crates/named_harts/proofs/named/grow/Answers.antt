use Rattle.std.proofs.Common.{◌≡◌, rules, inl, inr}
use Rattle.named_harts.proofs.StackLemmas.{pushed, said_are, not_are, enclosed_are}
use Rattle.named_harts.proofs.named.grow.Goals as goal

pub returns-in_ok-push-in-Says : goal.returns-in_ok-push-in-Says
returns-in_ok-push-in-Says c formulas are =
    let is : c.push.new.self.items ≡ pushed c.args.parts.now.items c.of.result = search rules in
    rw (c.in-Says.is, is) (said_are c.in-Says.atom formulas c.args.parts.now.items c.of.result c.of.ensures are)

pub returns-in-Not : goal.returns-in-Not
returns-in-Not c formulas are = elim c.in-Not.is [
  | inl negated ↦ rw negated (not_are formulas _ are)
  | inr parenthesized ↦ rw parenthesized (enclosed_are formulas _ are)
]
