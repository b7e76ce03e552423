-- Properties, and the sweeps that a listing allows.
use Rattle.std.specs.Prelude.{ℕ, List, []}
use Rattle.explore_properties.specs.declared.claims.Claim.{Claim}
use Rattle.explore_sweeps.specs.declared.Sweep.{Sweep}

-- the number of its line, its text, and what it claims
pub record PropertyParts : Type 0 where
  pub line : ℕ
  pub text : List ℕ
  pub claim : Claim

-- in the order of their lines
pub record PropertiesParts : Type 0 where
  pub properties : List PropertyParts
  pub sweeps : List Sweep

abbrev pub none_yet : PropertiesParts
none_yet = record { properties = []; sweeps = [] }
