use Rattle.std.proofs.Common.{arith}
use Rattle.authorities.proofs.MergeLemmas.{greatest_apart, merged_all, merged_greatest, merged_none, merged_step}
use Rattle.authorities.proofs.merging.merge.Goals as goal

pub loop-authority-init : goal.loop-authority-init
loop-authority-init c apart = merged_none c.args.greatest.now.items apart

pub loop-authority-preserved : goal.loop-authority-preserved
loop-authority-preserved c apart =
    merged_step c.args.greatest.now.items c.args.others.now c.loop-authority.greatest.items c.add_earliest.new.greatest.items
    c.loop-authority.authority-index _ c.loop-authority-test.true c.in_ok-add_earliest.ensures (c.loop-authority.invariant apart)

pub returns : goal.returns
returns c at one other first second =
    let xs = c.args.greatest.now.items in
    let ys = c.args.others.now in
    let zs = c.loop-authority.greatest.items in
    merged_greatest at one other xs ys zs first second
    (merged_all xs ys zs c.loop-authority.authority-index (omega (arith, c.loop-authority-test.false))
    (c.loop-authority.invariant (greatest_apart at one xs first)))
