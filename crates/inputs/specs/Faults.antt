-- What is said of files that were refused.
use Rattle.std.specs.Prelude.{ℕ, List, ◌++◌, codes, decimal}
use Rattle.grammar.specs.Faults.{listing_fault_text}
use Rattle.grammar.specs.declared.fault.ListingFaultKind.{ListingFaultKind}
use Rattle.grammar.specs.declared.fault.ListingFaultKind.TheVariants as listing_kinds
use Rattle.listings.specs.declared.fault.ListingFault.{ListingFault}
use Rattle.orders.specs.Orders.{order_fault_text}
use Rattle.orders.specs.declared.fault.OrderFault.{OrderFault}
use Rattle.orders.specs.declared.fault.OrderFaultKind.{OrderFaultKind}
use Rattle.orders.specs.declared.fault.OrderFaultKind.TheVariants as order_kinds
use Rattle.inputs.specs.declared.fault.InputFault.{InputFault}
use Rattle.inputs.specs.declared.fault.InputFault.TheVariants.{NoMemory, CannotReadListing}
use Rattle.inputs.specs.declared.fault.InputFault.TheVariants.{CannotReadOrder, Listing, Order}

-- what standard error says of it
abbrev pub fault_text : InputFault → List ℕ
fault_text NoMemory = codes "memory"
fault_text CannotReadListing = codes "cannot read listing"
fault_text CannotReadOrder = codes "cannot read order"
fault_text (Listing fault) =
    codes "listing line " ++ (decimal fault.line ++ (codes ": " ++ listing_fault_text fault.kind))
fault_text (Order fault) =
    codes "order byte " ++ (decimal fault.offset ++ (codes ": " ++ order_fault_text fault.kind))

-- the exit status
abbrev pub status_of : InputFault → ℕ
status_of (Listing fault) = 1
status_of (Order fault) = 1
status_of _ = 3

-- Refused texts. Running out of memory says nothing of a text, so it has no line of that text.
abbrev pub listing_fault_of_kind : ListingFaultKind → ListingFault → InputFault
listing_fault_of_kind listing_kinds.NoMemory fault = NoMemory
listing_fault_of_kind _ fault = Listing fault

abbrev pub listing_fault : ListingFault → InputFault
listing_fault fault = listing_fault_of_kind fault.kind fault

abbrev pub order_fault_of_kind : OrderFaultKind → OrderFault → InputFault
order_fault_of_kind order_kinds.NoMemory fault = NoMemory
order_fault_of_kind _ fault = Order fault

abbrev pub order_fault : OrderFault → InputFault
order_fault fault = order_fault_of_kind fault.kind fault
