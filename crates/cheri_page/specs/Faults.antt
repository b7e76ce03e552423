-- Why a call gives no more than it does: its status, its number, its place and its line.
use Rattle.std.specs.Prelude.{ℕ, List, ◌++◌, codes, decimal}
use Rattle.asm_files.specs.Faults.{fault_line}
use Rattle.asm_files.specs.declared.fault.AssemblyFault.{AssemblyFault}
use Rattle.asm_tokens.specs.Faults.{fault_number}
use Rattle.asm_tokens.specs.declared.fault.AsmFaultKind.{AsmFaultKind}
use Rattle.asm_tokens.specs.declared.fault.AsmFaultKind.TheVariants as asm_kinds
use Rattle.grammar.specs.Faults.{listing_fault_number, listing_fault_text}
use Rattle.grammar.specs.declared.fault.ListingFaultKind.{ListingFaultKind}
use Rattle.grammar.specs.declared.fault.ListingFaultKind.TheVariants as listing_kinds
use Rattle.listings.specs.declared.fault.ListingFault.{ListingFault}
use Rattle.page_searches.specs.declared.fault.SearchFault.{SearchFault}
use Rattle.page_searches.specs.declared.fault.SearchFault.TheVariants as searches
use Rattle.orders.specs.Orders.{order_fault_text}
use Rattle.orders.specs.Faults.{order_fault_number}
use Rattle.orders.specs.declared.fault.OrderFault.{OrderFault}
use Rattle.orders.specs.declared.fault.OrderFaultKind.{OrderFaultKind}
use Rattle.orders.specs.declared.fault.OrderFaultKind.TheVariants as order_kinds
use Rattle.cores.specs.Faults.{step_fault_number, step_fault_text}
use Rattle.simulation.specs.declared.faults.SimFault.{SimFault}
use Rattle.simulation.specs.declared.faults.SimFault.TheVariants as sim
use Rattle.number_lines.specs.declared.numbers.NumberFault.{NumberFault}
use Rattle.number_lines.specs.declared.numbers.NumberFault.TheVariants as numbers
use Rattle.cheri_page.specs.declared.fault.Fault.{Fault}
use Rattle.cheri_page.specs.declared.fault.Fault.TheVariants.{NoMemory, BadNumber, BadName}
use Rattle.cheri_page.specs.declared.fault.Fault.TheVariants.{Listing, Order, Step, Assembly, Map}
use Rattle.cheri_page.specs.declared.fault.Fault.TheVariants.{Condition, Item, Property}
use Rattle.cheri_page.specs.declared.fault.Fault.TheVariants.{BadLimit, BadText}

abbrev pub status_of : Fault → ℕ
status_of (Listing fault) = 1
status_of (Order fault) = 2
status_of (Step place fault) = 3
status_of NoMemory = 4
status_of BadNumber = 6
status_of (Assembly fault) = 7
status_of (Map line) = 8
status_of BadName = 9
status_of (Condition byte) = 10
status_of (Item byte) = 11
status_of (Property place) = 12
status_of BadLimit = 13
status_of BadText = 14

abbrev pub kind_of : Fault → ℕ
kind_of (Listing fault) = listing_fault_number fault.kind
kind_of (Order fault) = order_fault_number fault.kind
kind_of (Step place fault) = step_fault_number fault
kind_of (Assembly fault) = fault_number fault.fault.kind
kind_of _ = 0

-- a line of the listing, the assembly or the map, a byte of the order, the condition or the items,
-- or an operation of the order counted from 0
abbrev pub place_of : Fault → ℕ
place_of (Listing fault) = fault.line
place_of (Order fault) = fault.offset
place_of (Step place fault) = place
place_of (Assembly fault) = fault.fault.place.line
place_of (Map line) = line
place_of (Condition byte) = byte
place_of (Item byte) = byte
place_of (Property place) = place.line
place_of _ = 0

-- a column of the assembly, or a byte of a property's line
abbrev pub column_of : Fault → ℕ
column_of (Assembly fault) = fault.fault.place.column
column_of (Property place) = place.byte
column_of _ = 0

-- what the program says of it on standard error
abbrev pub fault_text : Fault → List ℕ
fault_text NoMemory = codes "memory"
fault_text BadNumber = codes "bad number"
fault_text (Listing fault) =
    codes "listing line " ++ (decimal fault.line ++ (codes ": " ++ listing_fault_text fault.kind))
fault_text (Order fault) =
    codes "order byte " ++ (decimal fault.offset ++ (codes ": " ++ order_fault_text fault.kind))
fault_text (Step place fault) =
    codes "order step " ++ (decimal place ++ (codes ": " ++ step_fault_text fault))
fault_text (Assembly fault) = codes "assembly " ++ fault_line fault
fault_text (Map line) = codes "map line " ++ decimal line
fault_text BadName = codes "bad name"
fault_text (Condition byte) = codes "bad condition at byte " ++ decimal byte
fault_text (Item byte) = codes "bad place at byte " ++ decimal byte
fault_text (Property place) =
    codes "bad property at line " ++ (decimal place.line ++ (codes " byte " ++ decimal place.byte))
fault_text BadLimit = codes "bad limit"
fault_text BadText = codes "bad text"

-- Refused texts. Running out of memory says nothing of a text, so it has no line of that text.
abbrev pub listing_fault_of_kind : ListingFaultKind → ListingFault → Fault
listing_fault_of_kind listing_kinds.NoMemory fault = NoMemory
listing_fault_of_kind _ fault = Listing fault

abbrev pub listing_fault : ListingFault → Fault
listing_fault fault = listing_fault_of_kind fault.kind fault

abbrev pub order_fault_of_kind : OrderFaultKind → OrderFault → Fault
order_fault_of_kind order_kinds.NoMemory fault = NoMemory
order_fault_of_kind _ fault = Order fault

abbrev pub order_fault : OrderFault → Fault
order_fault fault = order_fault_of_kind fault.kind fault

-- a run that was refused: its limit is lawful, and memory alone can fail while its report is kept
abbrev pub sim_fault : SimFault → Fault
sim_fault (sim.Listing fault) = listing_fault fault
sim_fault (sim.Order fault) = order_fault fault
sim_fault (sim.Boot fault) = NoMemory
sim_fault (sim.Report fault) = NoMemory

abbrev pub number_fault : NumberFault → Fault
number_fault numbers.NoMemory = NoMemory
number_fault numbers.BadNumber = BadNumber

-- assembly that was refused
abbrev pub assembly_fault_of_kind : AsmFaultKind → AssemblyFault → Fault
assembly_fault_of_kind asm_kinds.NoMemory fault = NoMemory
assembly_fault_of_kind _ fault = Assembly fault

abbrev pub assembly_fault : AssemblyFault → Fault
assembly_fault fault = assembly_fault_of_kind fault.fault.kind fault

-- a question about all orders that has no answer
unfoldable pub search_fault : SearchFault → Fault
search_fault searches.NoMemory = NoMemory
search_fault searches.Limit = BadLimit
search_fault searches.Number = BadNumber
search_fault (searches.Listing fault) = listing_fault fault
search_fault (searches.Condition byte) = Condition byte
search_fault (searches.Item byte) = Item byte
search_fault (searches.Property place) = Property place
