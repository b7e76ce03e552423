use Rattle.std.proofs.Common.{◌∙◌, ◌++◌, ap, sym}
use Rattle.explore_properties.specs.Properties.{PropertyParts}
use Rattle.explore_properties.specs.declared.claims.Claim.{Claim}
use Rattle.explore_verdicts.specs.Deciding.{watch_of}
use Rattle.explore_verdicts.proofs.WatchLemmas.{empty_watches, watch_more}
use Rattle.explore_verdicts.proofs.watching.watches_of.Goals as goal

pub loop-property-init : goal.loop-property-init
loop-property-init c = c.new-watches.ensures.items ∙ sym empty_watches

pub loop-property-preserved : goal.loop-property-preserved
loop-property-preserved c =
    let claim_is = c.claim.ensures ∙ ap (λ (p : PropertyParts). p.claim) c.property-item.is in
    watch_more c.args.properties.now c.loop-property.property-index _ c.loop-property.watches.items _ c.loop-property-test.true
    c.loop-property.invariant
    (c.in_ok-add_claim.ensures ∙ ap (λ (claim : Claim). c.loop-property.watches.items ++ watch_of claim) claim_is)
