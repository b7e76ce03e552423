use Rattle.std.proofs.Common.{ℕ, arith}
use Rattle.std.specs.Prelude.{Bool, replicate, false}
use Rattle.asked_registers.proofs.AskedLemmas.{first_none, first_more, first_all}
use Rattle.explore_properties.specs.Properties.{PropertyParts}
use Rattle.forgotten_checks.specs.Asked.{claim_asks, properties_ask}
use Rattle.forgotten_checks.proofs.AskedLemmas.{added}
use Rattle.forgotten_checks.proofs.asked.asked_for.Goals as goal

abbrev asks : PropertyParts → ℕ → Bool
asks property reg = claim_asks property.claim reg

pub loop-property-init : goal.loop-property-init
loop-property-init c = rw c.none-asked.ensures (first_none asks (replicate 32 false) c.args.properties.now)

pub loop-property-preserved : goal.loop-property-preserved
loop-property-preserved c =
    first_more asks (replicate 32 false) c.loop-property.asked c.in_ok-asked.asked c.args.properties.now
    c.loop-property.property-index _ _ c.loop-property-test.true c.property-item.is c.loop-property.invariant
    (rw c.claim.ensures at c.in_ok-asked.ensures)

pub returns : goal.returns
unfolding properties_ask
returns c =
    added (replicate 32 false) c.loop-property.asked (properties_ask c.args.properties.now)
    (first_all asks (replicate 32 false) c.loop-property.asked c.args.properties.now c.loop-property.property-index
    (omega (arith, c.loop-property-test.false)) c.loop-property.invariant)
