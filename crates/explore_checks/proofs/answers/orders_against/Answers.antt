use Rattle.std.proofs.Common.{ap, ◌++◌, ◌∙◌}
use Rattle.explore_checks.specs.Checks.{order_against}
use Rattle.explore_checks.proofs.OrderLemmas.{order_end, order_step}
use Rattle.explore_verdicts.specs.declared.verdict.PropertyVerdict.{PropertyVerdict}
use Rattle.order_texts.specs.OrderTexts.{orders_of}
use Rattle.explore_checks.proofs.answers.orders_against.Goals as goal

pub loop-property-preserved : goal.loop-property-preserved
loop-property-preserved c =
    order_step c.args.told.now c.loop-property.property-index _ c.loop-property-test.true _ _ _
    (c.in_ok-add_order.ensures ∙ ap (λ (p : PropertyVerdict). orders_of c.loop-property.orders.items ++ order_against p.verdict)
    c.property-item.is) c.loop-property.invariant

pub returns : goal.returns
returns c =
    order_end c.args.told.now c.loop-property.property-index _ _ c.loop-property-test.false c.loop-property.invariant
