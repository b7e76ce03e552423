-- what the properties so far name
use Rattle.std.proofs.Common.{take}
use Rattle.std.specs.List.{list_any}
use Rattle.forgotten_checks.specs.Asked.{claim_names}
use Rattle.named_harts.specs.NamedHarts.{IsSetOf}
use Rattle.forgotten_checks.proofs.named.named_by.Given as goal

abbrev pub invariant-loop-property : goal.invariant-loop-property
invariant-loop-property l =
    IsSetOf (λ hart. list_any (λ property. claim_names property.claim hart) (take l.property-index l.properties)) l.named
