-- what the properties so far ask for
use Rattle.std.proofs.Common.{take}
use Rattle.std.specs.List.{list_any}
use Rattle.std.specs.Prelude.{replicate, false}
use Rattle.asked_registers.specs.Asked.{IsWith}
use Rattle.forgotten_checks.specs.Asked.{claim_asks}
use Rattle.forgotten_checks.proofs.asked.asked_for.Given as goal

abbrev pub invariant-loop-property : goal.invariant-loop-property
invariant-loop-property l =
    IsWith (replicate 32 false) (λ reg. list_any (λ property. claim_asks property.claim reg) (take l.property-index l.properties)) l.asked
