-- What is told of properties.
use Rattle.std.specs.Prelude.{List, [], ◌∷◌, Option, Some, None}
use Rattle.cheri_model.specs.declared.operation.Op.{Op}
use Rattle.cheri_model.specs.runs.Image.{ImageParts}
use Rattle.explore_properties.specs.Properties.{PropertyParts}
use Rattle.sample_draws.specs.Drawings.{DrawingParts}
use Rattle.sample_draws.specs.Orders.{drawn_order}
use Rattle.sample_tallies.specs.declared.seen.Seen.{Seen}
use Rattle.sample_checks.specs.Deciding.{deciding_part}
use Rattle.sample_checks.specs.declared.told.Decided.{Decided}
use Rattle.sample_checks.specs.declared.told.PropertySeen.{PropertySeen}

-- the runs that decide it, and the order of the first of them up to the first state that does
abbrev pub with_order : Seen → Option (List Op) → Option (Seen × List Op)
with_order seen None = None
with_order seen (Some order) = Some (seen, order)

-- where runs decide a property, and the first of them does
unfoldable pub told_of : ImageParts → DrawingParts → PropertyParts → Option Seen
    → Option (Seen × List Op)
told_of image drawing property None = None
told_of image drawing property (Some seen) =
    with_order seen (deciding_part image property.claim (drawn_order image drawing seen.first))

-- of each property
unfoldable pub tell_all : ImageParts → DrawingParts → List PropertyParts → List (Option Seen)
    → List (Option (Seen × List Op))
tell_all image drawing [] decided = []
tell_all image drawing (property ∷ properties) [] = []
tell_all image drawing (property ∷ properties) (seen ∷ decided) =
    told_of image drawing property seen ∷ tell_all image drawing properties decided

-- the same, as it is kept
abbrev pub parts_of : Option Decided → Option (Seen × List Op)
parts_of None = None
parts_of (Some decided) = Some (decided.seen, decided.order.items)

abbrev pub told_in : PropertySeen → Option (Seen × List Op)
told_in told = parts_of told.decided

abbrev pub property_of : PropertySeen → PropertyParts
property_of told = told.property.now
