-- What is asked of the text of a listing: a search, and what its states are looked at for.
use Rattle.std.specs.Prelude.{ℕ, ◌==◌, if◌then◌else◌, false, List, [], map, Result, Ok, Err}
use Rattle.cheri_model.specs.runs.Image.{ImageParts}
use Rattle.condition_texts.specs.Conditions.{condition_of}
use Rattle.condition_texts.specs.Items.{items_of}
use Rattle.conditions.specs.Items.{ItemList}
use Rattle.conditions.specs.declared.parts.Node.{Node}
use Rattle.explore_properties.specs.Properties.{PropertiesParts, PropertyParts}
use Rattle.explore_properties.specs.Reading.{properties_of}
use Rattle.explore_properties.specs.declared.fault.PropertyPlace.{PropertyPlace}
use Rattle.explore_sweeps.specs.declared.Sweep.{Sweep}
use Rattle.grammar.specs.Faults.{◌>>=◌}
use Rattle.grammar.specs.Labels.{labels_of}
use Rattle.listings.specs.Meaning.{listing_meaning}
use Rattle.listings.specs.declared.fault.ListingFault.{ListingFault}
use Rattle.schedules.specs.declared.ranges.SweepRange.{SweepRange}
use Rattle.states.specs.Searches.{SearchParts}
use Rattle.page_searches.specs.Faults.{listing_fault}
use Rattle.page_searches.specs.declared.fault.SearchFault.{SearchFault}
use Rattle.page_searches.specs.declared.fault.SearchFault.TheVariants.{Limit, Condition, Item}
use Rattle.page_searches.specs.declared.fault.SearchFault.TheVariants.{Property}

-- ---- the search

-- by turns, and with no sweep
abbrev pub turns_of : ImageParts → ℕ → SearchParts
turns_of image limit = record { image = image; sweeps = []; every_step = false; limit = limit }

abbrev pub image_search : ℕ → Result ImageParts ListingFault → Result SearchParts SearchFault
image_search limit (Ok image) = Ok (turns_of image limit)
image_search limit (Err fault) = Err (listing_fault fault)

-- of the image of a good listing, where some states may be kept, which is judged first
unfoldable pub search_asked : List ℕ → ℕ → Result SearchParts SearchFault
search_asked listing limit =
    if limit == 0 then Err Limit else image_search limit (listing_meaning listing)

-- ---- what a text asks beside the listing

abbrev pub with_nodes : SearchParts → Result (List Node) ℕ
    → Result (SearchParts × List Node) SearchFault
with_nodes search (Ok nodes) = Ok (search, nodes)
with_nodes search (Err byte) = Err (Condition byte)

-- a condition, which may name the listing's labels
unfoldable pub find_asked : List ℕ → List ℕ → ℕ → Result (SearchParts × List Node) SearchFault
find_asked listing condition limit = do
  search ← search_asked listing limit
  with_nodes search (condition_of (labels_of listing) search.image condition)

abbrev pub with_items : SearchParts → Result ItemList ℕ
    → Result (SearchParts × ItemList) SearchFault
with_items search (Ok items) = Ok (search, items)
with_items search (Err byte) = Err (Item byte)

-- items
unfoldable pub rows_asked : List ℕ → List ℕ → ℕ → Result (SearchParts × ItemList) SearchFault
rows_asked listing items limit = do
  search ← search_asked listing limit
  with_items search (items_of search.image items)

-- ---- what the listing asks itself

abbrev pub range_of : Sweep → SweepRange
range_of sweep = record { lo = sweep.lo; hi = sweep.hi }

abbrev pub swept : SearchParts → PropertiesParts → SearchParts
swept search read = record search { sweeps = map range_of read.sweeps }

abbrev pub with_properties : SearchParts → Result PropertiesParts PropertyPlace
    → Result (SearchParts × List PropertyParts) SearchFault
with_properties search (Ok read) = Ok (swept search read, read.properties)
with_properties search (Err place) = Err (Property place)

-- its properties, with the sweeps that it allows
unfoldable pub check_asked : List ℕ → ℕ → Result (SearchParts × List PropertyParts) SearchFault
check_asked listing limit = do
  search ← search_asked listing limit
  with_properties search (properties_of (labels_of listing) search.image listing)
