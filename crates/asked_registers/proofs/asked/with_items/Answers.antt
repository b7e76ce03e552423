use Rattle.std.proofs.Common.{arith}
use Rattle.asked_registers.specs.Asked.{item_asks, items_ask}
use Rattle.asked_registers.proofs.AskedLemmas.{first_none, first_more, first_all}
use Rattle.asked_registers.proofs.asked.with_items.Goals as goal

pub loop-item-init : goal.loop-item-init
loop-item-init c = first_none item_asks c.args.set c.args.items.now

pub loop-item-preserved : goal.loop-item-preserved
loop-item-preserved c =
    first_more item_asks c.args.set c.loop-item.asked c.with_item-asked.result c.args.items.now c.loop-item.item-index _ c.item-item.result
    (omega (arith, c.loop-item-test.true, c.loop-item.auto.item-index-end)) c.item-item.is c.loop-item.invariant c.with_item-asked.ensures

pub returns : goal.returns
unfolding items_ask
returns c =
    first_all item_asks c.args.set c.loop-item.asked c.args.items.now c.loop-item.item-index
    (omega (arith, c.loop-item-test.false, c.loop-item.auto.item-index-end)) c.loop-item.invariant
