-- What an answer of `sample` tells, and the orders that it names.
use Rattle.std.specs.Prelude.{◌≡◌, ℕ, List, length, Option, Some, None}
use Rattle.std.specs.Borrow.{Bor}
use Rattle.cheri_model.specs.runs.Image.{ImageParts, opening_memory}
use Rattle.conditions.specs.Items.{ItemList, list_of}
use Rattle.conditions.specs.declared.items.Items.{Items}
use Rattle.order_texts.specs.OrderTexts.{order_text}
use Rattle.sample_draws.specs.Drawings.{DrawingParts}
use Rattle.sample_draws.specs.Orders.{drawn_order}
use Rattle.sample_tallies.specs.Counts.{Counted}
use Rattle.sample_tallies.specs.Tallies.{TallyParts}
use Rattle.sample_tallies.specs.Within.{IsWithin}
use Rattle.sample_checks.specs.declared.told.PropertySeen.{PropertySeen}
use Rattle.sample_texts.specs.declared.sampled.Sampled.{Sampled}
use Rattle.sample_texts.specs.declared.spans.Span.{Span}

-- What orders are drawn of.
pub record Drawn : Type 0 where
  pub image : ImageParts
  pub drawing : DrawingParts

-- the text of the order of the run with this number
abbrev pub order_of : Drawn → ℕ → List ℕ
order_of drawn run = order_text (drawn_order drawn.image drawn.drawing run)

-- The image, how orders were drawn, the items that are shown of ends, the numbers of the runs, what
-- the runs gave, and what was seen of each property.
pub record SampledParts : Type 0 where
  pub image : ImageParts
  pub drawing : DrawingParts
  pub items : Option ItemList
  pub numbers : List Span
  pub sum : TallyParts
  pub properties : List PropertySeen

abbrev pub drawn_of : SampledParts → Drawn
drawn_of sampled = record { image = sampled.image; drawing = sampled.drawing }

abbrev pub shown_items : Option (Bor Items) → Option ItemList
shown_items None = None
shown_items (Some items) = Some (list_of items.now)

abbrev pub sampled_of : Sampled → SampledParts
sampled_of sampled = record {
  image = sampled.image.now;
  drawing = sampled.drawing.now;
  items = shown_items sampled.items;
  numbers = sampled.numbers.now;
  sum = sampled.tally.now.sum;
  properties = sampled.properties.now;
}

-- a tally of runs of this image, whose first runs can be drawn again
pub record IsTold (image : ImageParts) (tally : Counted) : Type 0 where
  pub harts : tally.harts ≡ length image.harts
  pub granules : tally.granules ≡ length (opening_memory image.ram image.granules)
  pub within : IsWithin tally.sum
