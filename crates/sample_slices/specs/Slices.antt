-- Slices: what the runs with some numbers gave, as one line of text tells it.
use Rattle.std.specs.Prelude.{◌≡◌, ℕ, Bool, true, false, List, [], length, map}
use Rattle.std.specs.Prelude.{Option, Some, None, is_some, Result, Ok, Err}
use Rattle.std.specs.Borrow.{Bor}
use Rattle.cheri_model.specs.runs.Image.{ImageParts, opening_memory}
use Rattle.condition_texts.specs.Items.{items_of}
use Rattle.conditions.specs.Items.{ItemList}
use Rattle.explore_properties.specs.Properties.{PropertiesParts, PropertyParts}
use Rattle.explore_properties.specs.declared.fault.PropertyPlace.{PropertyPlace}
use Rattle.sample_checks.specs.Checks.{CheckedParts, either_each}
use Rattle.sample_checks.specs.Told.{property_of, tell_all, told_in}
use Rattle.sample_checks.specs.declared.told.PropertySeen.{PropertySeen}
use Rattle.sample_draws.specs.Drawings.{DrawingParts}
use Rattle.sample_tallies.specs.Tallies.{TallyParts, add}
use Rattle.sample_tallies.specs.declared.seen.Seen.{Seen}
use Rattle.sample_texts.specs.SampleData.{sample_text}
use Rattle.sample_texts.specs.declared.spans.Span.{Span}
use Rattle.shown_states.specs.declared.form.Format.{Format}

-- ---- the listing

-- its image, and its properties where they are good
pub record ListingParts : Type 0 where
  pub image : ImageParts
  pub properties : Option PropertiesParts

abbrev pub properties_known : Result PropertiesParts PropertyPlace → Option PropertiesParts
properties_known (Ok read) = Some read
properties_known (Err place) = None

-- its properties, where they are looked at
abbrev pub looked_at : Option PropertiesParts → Bool → Option PropertiesParts
looked_at properties false = None
looked_at properties true = properties

abbrev pub asked : Option PropertiesParts → List PropertyParts
asked None = []
asked (Some read) = read.properties

-- ---- a slice

-- Of a machine with so many harts and granules: how orders are drawn, the text of the items that
-- are shown, if they are, the numbers of the runs, ascending and apart, what the runs gave, of each
-- property which of them decide it, and whether properties are looked at.
pub record SliceParts : Type 0 where
  pub harts : ℕ
  pub granules : ℕ
  pub drawing : DrawingParts
  pub items : Option (List ℕ)
  pub numbers : List Span
  pub sum : TallyParts
  pub decided : List (Option Seen)
  pub is_checked : Bool

-- how orders are drawn, the items that are shown, if some are, and whether properties are looked at
pub record QuestionParts : Type 0 where
  pub drawing : DrawingParts
  pub items : Option (List ℕ)
  pub is_checked : Bool

-- what runs of these numbers gave of which this is asked
abbrev pub slice_of : QuestionParts → List Span → CheckedParts → SliceParts
slice_of question numbers checked = record {
  harts = checked.harts;
  granules = checked.granules;
  drawing = question.drawing;
  items = question.items;
  numbers = numbers;
  sum = checked.sum;
  decided = checked.decided;
  is_checked = question.is_checked;
}

-- what its runs gave, with what they say of properties
abbrev pub checked_in : SliceParts → CheckedParts
checked_in slice = record {
  harts = slice.harts;
  granules = slice.granules;
  sum = slice.sum;
  decided = slice.decided;
}

-- the items that a text writes
abbrev pub items_known : {E : Type 0} → Result ItemList E → Option ItemList
items_known (Ok items) = Some items
items_known (Err e) = None

abbrev pub items_shown : ImageParts → Option (List ℕ) → Option ItemList
items_shown image None = None
items_shown image (Some text) = items_known (items_of image text)

-- a text of items, where there is one, writes some of this image
abbrev pub AreItems : ImageParts → Option (List ℕ) → Type 0
AreItems image None = Unit {0}
AreItems image (Some text) = is_some (items_shown image (Some text)) ≡ true

-- It is of the listing's machine, and of as many properties as are looked at; its items can be
-- shown.
pub record Fits (listing : ListingParts) (slice : SliceParts) : Type 0 where
  pub harts : slice.harts ≡ length listing.image.harts
  pub granules :
      slice.granules ≡ length (opening_memory listing.image.ram listing.image.granules)
  pub decided :
      length slice.decided ≡ length (asked (looked_at listing.properties slice.is_checked))
  pub items : AreItems listing.image slice.items

-- what is known of a listing, as code keeps it
abbrev pub properties_in : Option (Bor PropertiesParts) → Option PropertiesParts
properties_in None = None
properties_in (Some read) = Some read.now

-- ---- its text

-- what is told of these properties
pub record AreTold (image : ImageParts) (properties : List PropertyParts) (slice : SliceParts)
    (told : List PropertySeen) : Type 0 where
  pub are_these : map property_of told ≡ properties
  pub are_decided :
      map told_in told ≡ tell_all image slice.drawing properties slice.decided

-- the text that tells a slice of which these properties are looked at
pub record IsTextOf (image : ImageParts) (properties : List PropertyParts) (slice : SliceParts)
    (format : Format) (text : List ℕ) : Type 0 where
  pub told : List PropertySeen
  pub are_told : AreTold image properties slice told
  pub text_is : text ≡ sample_text format (record {
    image = image;
    drawing = slice.drawing;
    items = items_shown image slice.items;
    numbers = slice.numbers;
    sum = slice.sum;
    properties = told;
  })

-- ---- sums

-- a slice with the runs of another, which then have these numbers
unfoldable pub plus : SliceParts → SliceParts → List Span → SliceParts
plus slice other numbers = record slice {
  numbers = numbers;
  sum = add slice.sum other.sum;
  decided = either_each slice.decided other.decided;
}
