-- What runs gave, with what they say of properties.
use Rattle.std.proofs.Common.{◌≡◌, List, refl}
use Rattle.std.specs.Prelude.{Bool, None, Option, Some}
use Rattle.explore_properties.specs.Properties.{PropertiesParts}
use Rattle.sample_checks.specs.Checks.{CheckedParts}
use Rattle.sample_tallies.specs.Counts.{Counted}
use Rattle.sample_tallies.specs.Tallies.{TallyParts}
use Rattle.sample_tallies.specs.declared.seen.Seen.{Seen}
use Rattle.sample_texts.specs.SampleParts.{IsTold}
use Rattle.serde_json.specs.Data.{Data}
use Rattle.sample_slices.specs.Claimed.{AgainParts, checked_in, decided_in, tally_in}

module _ (again : AgainParts) (properties : Option PropertiesParts) (is_shown : Bool) (value : Data) where
  pub decided_fails : (sum : TallyParts) → tally_in again is_shown value ≡ Some sum → decided_in again properties value ≡ None
      → checked_in again properties is_shown value ≡ None
  unfolding checked_in
  decided_fails sum t d = rw (t, d) refl

  pub checked_is : (tally : Counted) (decided : List (Option Seen)) (checked : CheckedParts)
      → tally_in again is_shown value ≡ Some tally.sum → IsTold again.image tally → decided_in again properties value ≡ Some decided
      → checked ≡ record { harts = tally.harts; granules = tally.granules; sum = tally.sum; decided = decided }
      → checked_in again properties is_shown value ≡ Some checked
  unfolding checked_in
  checked_is tally decided checked t told d is = rw (is, t, d, told.harts, told.granules) refl
