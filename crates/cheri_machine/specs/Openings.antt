-- The opening of a machine by a listing.
use Rattle.std.specs.Prelude.{◌≡◌, ◌⊎◌, ℕ, List, Option, Some, None, Result, Ok, Err}
use Rattle.std.specs.Prelude.{MatchResult, if◌then◌else◌}
use Rattle.cheri_model.specs.runs.Image.{ImageParts}
use Rattle.grammar.specs.Faults.{listing_fault_number}
use Rattle.grammar.specs.declared.fault.ListingFaultKind.{ListingFaultKind}
use Rattle.grammar.specs.declared.fault.ListingFaultKind.TheVariants as listing_kinds
use Rattle.listings.specs.declared.fault.ListingFault.{ListingFault}
use Rattle.listings.specs.Meaning.{listing_meaning}
use Rattle.cores.specs.Cores.{CoreParts, is_limit, opening_core}
use Rattle.cores.specs.declared.faults.BootFault.{BootFault}
use Rattle.cores.specs.declared.faults.BootFault.TheVariants as boot
use Rattle.cheri_machine.specs.declared.fault.OpenFault.{OpenFault}
use Rattle.cheri_machine.specs.declared.fault.OpenFault.TheVariants.{Listing, Limit, NoMemory}
use Rattle.cheri_machine.specs.declared.status.TheConstants as status
use Rattle.cheri_machine.specs.declared.structs.CheriOpened.{CheriOpened}

-- Running out of memory says nothing of a listing.
abbrev pub listing_fault_of_kind : ListingFaultKind → ListingFault → OpenFault
listing_fault_of_kind listing_kinds.NoMemory fault = NoMemory
listing_fault_of_kind _ fault = Listing fault

abbrev pub listing_fault : ListingFault → OpenFault
listing_fault fault = listing_fault_of_kind fault.kind fault

abbrev pub boot_fault : BootFault → OpenFault
boot_fault boot.Limit = Limit
boot_fault boot.NoMemory = NoMemory

-- the core of an image before its first operation, where its trace may have this limit
abbrev pub opening_of : Result ImageParts ListingFault → ℕ → Result CoreParts OpenFault
opening_of (Err fault) limit = Err (listing_fault fault)
opening_of (Ok image) limit = if is_limit limit then Ok (opening_core image limit) else Err Limit

-- the core that a listing means; the listing is judged before the limit
abbrev pub opening_meant : List ℕ → ℕ → Result CoreParts OpenFault
opening_meant listing limit = opening_of (listing_meaning listing) limit

-- A core is that which is meant, and a fault is that which is meant or out of memory.
abbrev pub GivesCore : Result CoreParts OpenFault → Result CoreParts OpenFault → Type 0
GivesCore given meant =
    MatchResult given
    (λ core. meant ≡ Ok core)
    (λ fault. (fault ≡ NoMemory) ⊎ (meant ≡ Err fault))

-- what an opening answers
abbrev pub opened_by_fault : OpenFault → CheriOpened
opened_by_fault (Listing fault) =
    record { status = status.LISTING; kind = listing_fault_number fault.kind; line = fault.line }
opened_by_fault Limit = record { status = status.LIMIT; kind = 0; line = 0 }
opened_by_fault NoMemory = record { status = status.NO_MEMORY; kind = 0; line = 0 }

abbrev pub opened_by : Result CoreParts OpenFault → CheriOpened
opened_by (Ok core) = record { status = status.DONE; kind = 0; line = 0 }
opened_by (Err fault) = opened_by_fault fault

-- what a handle has after an opening
abbrev pub core_given : Result CoreParts OpenFault → Option CoreParts
core_given (Ok core) = Some core
core_given (Err fault) = None

-- An opening answers this, and the handle then has this core: the ones that are meant, or memory
-- ran out and the handle is closed.
abbrev pub IsOpening : Result CoreParts OpenFault → CheriOpened → Option CoreParts → Type 0
IsOpening meant answer core =
    ((answer ≡ opened_by_fault NoMemory) × (core ≡ None))
    ⊎ ((answer ≡ opened_by meant) × (core ≡ core_given meant))
