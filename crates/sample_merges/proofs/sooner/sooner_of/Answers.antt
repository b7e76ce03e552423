use Rattle.std.proofs.Common.{refl}
use Rattle.sample_merges.proofs.SpanLemmas.{before_all, first_shared}
use Rattle.sample_merges.proofs.sooner.sooner_of.Goals as goal

pub returns-then-one-other : goal.returns-then-one-other
returns-then-one-other c = (refl, before_all c.args.one c.args.other c.args.after_other.now c.requires.other c.if-one-other.true)

pub returns-then-other-one : goal.returns-then-other-one
returns-then-other-one c = (refl, before_all c.args.other c.args.one c.args.after_one.now c.requires.one c.if-other-one.true)

pub returns : goal.returns
returns c =
    first_shared c.args.one c.args.after_one.now c.args.other c.args.after_other.now c.requires.one c.requires.other
    c.if-one-other.false c.if-other-one.false
