-- What many runs gave, and what they say of properties.
use Rattle.std.specs.Prelude.{◌≡◌, ◌≤◌, ℕ, List, [], ◌∷◌, fold, map, replicate, All, Option, Some}
use Rattle.std.specs.Prelude.{None}
use Rattle.cheri_model.specs.runs.Image.{ImageParts}
use Rattle.explore_properties.specs.Properties.{PropertyParts}
use Rattle.sample_draws.specs.declared.drawing.TheConstants.{MAX_RUN}
use Rattle.sample_draws.specs.Drawings.{DrawingParts}
use Rattle.sample_draws.specs.Orders.{drawn_order}
use Rattle.sample_tallies.specs.declared.seen.Seen.{Seen}
use Rattle.sample_tallies.specs.Tables.{seen_once, either}
use Rattle.sample_tallies.specs.Tallies.{TallyParts}
use Rattle.sample_tallies.specs.Within.{IsWithin}
use Rattle.sample_checks.specs.Deciding.{decided_after}

-- A tally of runs of a machine with so many harts and granules; and of each property which runs
-- decide it.
pub record CheckedParts : Type 0 where
  pub harts : ℕ
  pub granules : ℕ
  pub sum : TallyParts
  pub decided : List (Option Seen)

-- what a run says of a property that its order decides after so many operations
abbrev pub seen_if : Option ℕ → ℕ → Option Seen
seen_if None run = None
seen_if (Some count) run = Some (seen_once run)

unfoldable pub decided_once : ImageParts → DrawingParts → PropertyParts → ℕ → Option Seen
decided_once image drawing property run =
    seen_if (decided_after image property.claim (drawn_order image drawing run)) run

-- what the run of this number says of each property
unfoldable pub decided_by : ImageParts → DrawingParts → List PropertyParts → ℕ
    → List (Option Seen)
decided_by image drawing properties run =
    map (λ property. decided_once image drawing property run) properties

-- which of these runs decide a property
unfoldable pub decided_of : ImageParts → DrawingParts → List ℕ → PropertyParts → Option Seen
decided_of image drawing numbers property =
    fold either None (map (decided_once image drawing property) numbers)

-- of each property
unfoldable pub decided_in : ImageParts → DrawingParts → List PropertyParts → List ℕ
    → List (Option Seen)
decided_in image drawing properties numbers =
    map (decided_of image drawing numbers) properties

-- of so many properties nothing
abbrev pub none_each : ℕ → List (Option Seen)
none_each count = replicate count None

-- what two parts of the runs say of as many properties
unfoldable pub either_each : List (Option Seen) → List (Option Seen) → List (Option Seen)
either_each [] others = []
either_each (one ∷ ones) [] = []
either_each (one ∷ ones) (other ∷ others) = either one other ∷ either_each ones others

-- the first run that decides a property is one that can be drawn
abbrev pub is_drawn : Option Seen → Type 0
is_drawn decided = (seen : Seen) → decided ≡ Some seen → seen.first ≤ MAX_RUN

-- all first runs can be drawn again
pub record AreWithin (t : TallyParts) (all : List (Option Seen)) : Type 0 where
  pub sum : IsWithin t
  pub decided : All is_drawn all
