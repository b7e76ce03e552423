use Rattle.std.proofs.Common.{arith}
use Rattle.named_items.proofs.NamedLemmas.{all_named, more_named}
use Rattle.named_items.proofs.named.named_items.Goals as goal

pub loop-item-preserved : goal.loop-item-preserved
loop-item-preserved c =
    more_named c.args.items.now c.loop-item.item-index _ c.item-item.result c.loop-item.named c.with_item-named.result
    (omega (arith, c.loop-item-test.true, c.loop-item.auto.item-index-end)) c.item-item.is c.loop-item.invariant c.with_item-named.ensures

pub returns : goal.returns
returns c =
    all_named c.args.items.now c.loop-item.item-index c.loop-item.named
    (omega (arith, c.loop-item-test.false, c.loop-item.auto.item-index-end)) c.loop-item.invariant
