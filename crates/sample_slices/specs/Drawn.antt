-- How a line says that orders are drawn, and which items it says are shown.
use Rattle.std.specs.Prelude.{◌==◌, ◌-◌, ◌||◌, ℕ, Bool, not, if◌then◌else◌}
use Rattle.std.specs.Prelude.{List, [], ◌∷◌, ◌++◌, map, take, drop, length, codes, nat_le}
use Rattle.std.specs.Prelude.{Option, Some, None, is_some}
use Rattle.cheri_model.specs.runs.Image.{ImageParts}
use Rattle.explore_properties.specs.Properties.{PropertiesParts}
use Rattle.explore_sweeps.specs.Sweeps.{◌>>=◌, sweep_of}
use Rattle.explore_sweeps.specs.declared.TheConstants.{MAX_SWEEPS}
use Rattle.sample_draws.specs.Drawings.{DrawingParts, is_drawing}
use Rattle.sample_draws.specs.declared.drawing.TheConstants.{MAX_DEPTH, MAX_LENGTH, MAX_SEED}
use Rattle.schedules.specs.declared.ranges.SweepRange.{SweepRange}
use Rattle.serde_json.specs.Data.{Data}
use Rattle.serde_json.specs.Find.{as_array, as_str, get}
use Rattle.sample_slices.specs.Members.{all_steps, list_in, number_in, number_within}
use Rattle.sample_slices.specs.Slices.{ListingParts, QuestionParts, items_shown, looked_at}
use Rattle.sample_slices.specs.Sweeps.{range_of, same_ranges, united}

-- a text without its first and its last byte
abbrev pub inner : List ℕ → List ℕ
inner text = take (length text - 2) (drop 1 text)

-- the range of a sweep in brackets
unfoldable pub range_in : Data → Option SweepRange
range_in value = do
  text ← as_str value
  sweep ← sweep_of (inner text)
  Some (range_of sweep)

abbrev pub range_step : Data → List SweepRange → Option (List SweepRange)
range_step value ranges = do
  range ← range_in value
  Some (ranges ++ range ∷ [])

unfoldable pub ranges_in : Data → Option (List SweepRange)
ranges_in value = do
  list ← list_in (codes "sweeps") value
  all_steps range_step list []

-- a depth, if it is there
abbrev pub some_depth : Option ℕ → Option (Option ℕ)
some_depth None = None
some_depth (Some depth) = Some (Some depth)

abbrev pub depth_of : Option Data → Option (Option ℕ)
depth_of None = Some None
depth_of (Some value) = some_depth (number_within MAX_DEPTH value)

unfoldable pub depth_in : Data → Option (Option ℕ)
depth_in value = depth_of (get (codes "depth") value)

-- what is within its limits
abbrev pub drawing_within : DrawingParts → Option DrawingParts
drawing_within drawing = if is_drawing drawing then Some drawing else None

unfoldable pub drawing_of : Data → Option DrawingParts
drawing_of value = do
  seed ← number_in (codes "seed") MAX_SEED value
  length ← number_in (codes "length") MAX_LENGTH value
  depth ← depth_in value
  sweeps ← ranges_in value
  drawing_within (record { seed = seed; length = length; depth = depth; sweeps = sweeps })

-- Sweeps that a command line gives, at most eight; where properties are looked at, those and then
-- the others of the listing, each once.
unfoldable pub are_given : Option PropertiesParts → List SweepRange → Bool
are_given None sweeps = nat_le (length sweeps) MAX_SWEEPS
are_given (Some read) sweeps =
    same_ranges (united (take MAX_SWEEPS sweeps) (map range_of read.sweeps)) sweeps

unfoldable pub drawing_in : Option PropertiesParts → Data → Option DrawingParts
drawing_in properties value = do
  drawn ← get (codes "drawn") value
  drawing ← drawing_of drawn
  if are_given properties drawing.sweeps then Some drawing else None

-- ---- items

-- texts, separated by commas, with one more
abbrev pub with_item : List ℕ → List ℕ → List ℕ
with_item texts text = (if length texts == 0 then [] else texts ++ 0x2C ∷ []) ++ text

abbrev pub item_step : Data → List ℕ → Option (List ℕ)
item_step value texts = do
  text ← as_str value
  Some (with_item texts text)

-- the texts of a list
unfoldable pub items_text : Data → Option (List ℕ)
items_text value = do
  list ← as_array value
  all_steps item_step list []

-- a text that writes items of this image
unfoldable pub text_of_items : ImageParts → List ℕ → Option (List ℕ)
text_of_items image text = if is_some (items_shown image (Some text)) then Some text else None

abbrev pub some_items : Option (List ℕ) → Option (Option (List ℕ))
some_items None = None
some_items (Some text) = Some (Some text)

abbrev pub items_of : ImageParts → Option Data → Option (Option (List ℕ))
items_of image None = Some None
items_of image (Some value) = some_items (do
  text ← items_text value
  text_of_items image text)

unfoldable pub items_in : ImageParts → Data → Option (Option (List ℕ))
items_in image value = items_of image (get (codes "items") value)

-- ---- the question

abbrev pub is_checked_in : Data → Bool
is_checked_in value = is_some (get (codes "properties") value)

-- properties that are looked at have to be good
abbrev pub are_good : Bool → Option PropertiesParts → Bool
are_good is_checked properties = not is_checked || is_some properties

unfoldable pub question_of : ImageParts → Bool → Option PropertiesParts → Data
    → Option QuestionParts
question_of image is_checked properties value = do
  drawing ← drawing_in properties value
  items ← items_in image value
  Some (record { drawing = drawing; items = items; is_checked = is_checked })

unfoldable pub question_in : ListingParts → Data → Option QuestionParts
question_in listing value =
    let is_checked = is_checked_in value in
    let properties = looked_at listing.properties is_checked in
    if are_good is_checked properties
    then question_of listing.image is_checked properties value
    else None
