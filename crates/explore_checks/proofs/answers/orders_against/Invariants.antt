-- the orders so far, and those that are left
use Rattle.std.proofs.Common.{◌≡◌, ◌++◌, drop}
use Rattle.explore_checks.specs.Checks.{orders_against}
use Rattle.order_texts.specs.OrderTexts.{orders_of}
use Rattle.explore_checks.proofs.answers.orders_against.Given as goal

abbrev pub invariant-loop-property : goal.invariant-loop-property
invariant-loop-property l =
    orders_of l.orders.items ++ orders_against (drop l.property-index l.told) ≡ orders_against l.told
