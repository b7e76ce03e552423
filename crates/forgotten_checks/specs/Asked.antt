-- What properties ask for: registers, of whichever hart, and harts by their numbers. Both are those
-- of their conditions.
use Rattle.std.specs.Prelude.{ℕ, Bool, false, List}
use Rattle.std.specs.List.{list_any}
use Rattle.asked_registers.specs.Asked.{condition_asks}
use Rattle.explore_properties.specs.Properties.{PropertyParts}
use Rattle.explore_properties.specs.declared.claims.Claim.{Claim}
use Rattle.explore_properties.specs.declared.claims.Claim.TheVariants.{Holds, Ends, EndsFairly}
use Rattle.hart_symmetry.specs.Named.{condition_names}

-- the registers
abbrev pub claim_asks : Claim → ℕ → Bool
claim_asks (Holds when condition) reg = condition_asks condition reg
claim_asks Ends reg = false
claim_asks EndsFairly reg = false

unfoldable pub properties_ask : List PropertyParts → ℕ → Bool
properties_ask properties reg = list_any (λ property. claim_asks property.claim reg) properties

-- the harts
abbrev pub claim_names : Claim → ℕ → Bool
claim_names (Holds when condition) hart = condition_names condition hart
claim_names Ends hart = false
claim_names EndsFairly hart = false

unfoldable pub properties_name : List PropertyParts → ℕ → Bool
properties_name properties hart = list_any (λ property. claim_names property.claim hart) properties
