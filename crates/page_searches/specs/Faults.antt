-- Why a question has no answer, by the fault of a text.
use Rattle.condition_texts.specs.declared.fault.TextFault.{TextFault}
use Rattle.condition_texts.specs.declared.fault.TextFault.TheVariants as texts
use Rattle.explore_properties.specs.declared.fault.PropertyFault.{PropertyFault}
use Rattle.explore_properties.specs.declared.fault.PropertyFault.TheVariants as properties
use Rattle.grammar.specs.declared.fault.ListingFaultKind.{ListingFaultKind}
use Rattle.grammar.specs.declared.fault.ListingFaultKind.TheVariants as listing_kinds
use Rattle.listings.specs.declared.fault.ListingFault.{ListingFault}
use Rattle.page_searches.specs.declared.fault.SearchFault.{SearchFault}
use Rattle.page_searches.specs.declared.fault.SearchFault.TheVariants.{NoMemory, Listing}
use Rattle.page_searches.specs.declared.fault.SearchFault.TheVariants.{Condition, Item, Property}

-- Running out of memory says nothing of a text.
abbrev pub listing_fault_of_kind : ListingFaultKind → ListingFault → SearchFault
listing_fault_of_kind listing_kinds.NoMemory fault = NoMemory
listing_fault_of_kind _ fault = Listing fault

abbrev pub listing_fault : ListingFault → SearchFault
listing_fault fault = listing_fault_of_kind fault.kind fault

abbrev pub text_fault : TextFault → SearchFault
text_fault (texts.Condition byte) = Condition byte
text_fault (texts.Place byte) = Item byte
text_fault texts.NoMemory = NoMemory

abbrev pub property_fault : PropertyFault → SearchFault
property_fault (properties.Place place) = Property place
property_fault properties.NoMemory = NoMemory
