use Rattle.std.proofs.Common.{arith}
use Rattle.forgotten_checks.proofs.NamedLemmas.{all_named, more_named}
use Rattle.forgotten_checks.proofs.named.named_by.Goals as goal

pub loop-property-preserved : goal.loop-property-preserved
loop-property-preserved c =
    more_named c.args.properties.now c.loop-property.property-index _ _ c.loop-property.named c.in_ok-named.named
    c.loop-property-test.true c.property-item.is c.loop-property.invariant (rw c.claim.ensures at c.in_ok-named.ensures)

pub returns : goal.returns
returns c =
    all_named c.args.properties.now c.loop-property.property-index c.loop-property.named
    (omega (arith, c.loop-property-test.false)) c.loop-property.invariant
