use Rattle.std.proofs.Common.{List, ◌++◌, ap, ◌∙◌}
use Rattle.std.specs.Prelude.{Vec, option_map}
use Rattle.std.specs.Global.{Global}
use Rattle.cheri_model.specs.declared.operation.Op.{Op}
use Rattle.explained_orders.specs.ExplainedOrders.{explained_order}
use Rattle.listing_maps.specs.Names.{sources_parts}
use Rattle.explained_orders.proofs.ExplainedLemmas.{explained_end, explained_step}
use Rattle.explained_orders.proofs.explaining.explain_orders.Goals as goal

pub loop-order-preserved : goal.loop-order-preserved
loop-order-preserved c =
    explained_step c.args.listing.now (option_map sources_parts c.args.sources) c.args.image.now c.args.orders.now c.loop-order.order-index _ c.loop-order-test.true c.loop-order.out.bytes _ _
    (c.in_ok-put_order.ensures ∙ ap (λ (ops : List Op). c.loop-order.out.bytes ++ explained_order c.args.listing.now (option_map sources_parts c.args.sources) c.args.image.now ops)
    (c.as_slice.ensures.value ∙ ap (λ (order : Vec Op Global). order.items) c.order-item.is)) c.loop-order.invariant

pub returns : goal.returns
returns c =
    explained_end c.args.listing.now (option_map sources_parts c.args.sources) c.args.image.now c.args.orders.now c.loop-order.order-index c.loop-order-test.false _ _ c.loop-order.invariant
