-- the answer and the orders so far, and those that are left
use Rattle.std.proofs.Common.{◌≡◌, ◌++◌, drop}
use Rattle.std.specs.Prelude.{option_map}
use Rattle.listing_maps.specs.Names.{sources_parts}
use Rattle.explained_orders.specs.ExplainedOrders.{explained_orders}
use Rattle.order_texts.specs.OrderTexts.{orders_of}
use Rattle.explained_orders.proofs.explaining.explain_orders.Given as goal

abbrev pub invariant-loop-order : goal.invariant-loop-order
invariant-loop-order l =
    l.out.bytes ++ explained_orders l.listing (option_map sources_parts l.sources) l.image (orders_of (drop l.order-index l.orders))
    ≡ l.answer ++ explained_orders l.listing (option_map sources_parts l.sources) l.image (orders_of l.orders)
