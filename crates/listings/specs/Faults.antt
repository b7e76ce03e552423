-- Faults of listings, and what an answer that may be one says.
use Rattle.std.specs.Prelude.{◌≡◌, ℕ, Result, Ok, Err, ◌⊎◌, ⊤}
use Rattle.grammar.specs.declared.fault.ListingFaultKind.{ListingFaultKind}
use Rattle.grammar.specs.declared.fault.ListingFaultKind.TheVariants.{NoMemory}
use Rattle.listings.specs.declared.fault.ListingFault.{ListingFault}
use Rattle.listings.specs.declared.fault.LineFault.{LineFault}
use Rattle.listings.specs.declared.fault.LineFault.TheVariants as line_faults

-- out of memory, which has no line
abbrev pub no_memory : ListingFault
no_memory = record { line = 0; kind = NoMemory }

-- a fault of a line as a fault of the listing
abbrev pub fault_at : ℕ → LineFault → ListingFault
fault_at line line_faults.NoMemory = no_memory
fault_at line (line_faults.Kind kind) = record { line = line; kind = kind }

-- a line was read by its meaning: what it means, or its kind of fault, or out of memory
abbrev pub GivesLine : {X : Type 0} → Result X LineFault → Result X ListingFaultKind → Type 0
GivesLine (Ok x) meaning = meaning ≡ Ok x
GivesLine (Err line_faults.NoMemory) meaning = ⊤
GivesLine (Err (line_faults.Kind kind)) meaning = meaning ≡ Err kind

-- the draft is what the line means, or the answer is its fault or out of memory
abbrev pub FillsLine : {X : Type 0} → Result (Unit {0}) LineFault → X → Result X ListingFaultKind
    → Type 0
FillsLine (Ok done) new meaning = meaning ≡ Ok new
FillsLine (Err line_faults.NoMemory) new meaning = ⊤
FillsLine (Err (line_faults.Kind kind)) new meaning = meaning ≡ Err kind

-- a listing was read by its meaning: what it means, or its fault, or out of memory
abbrev pub Gives : {X : Type 0} → Result X ListingFault → Result X ListingFault → Type 0
Gives (Ok x) meaning = meaning ≡ Ok x
Gives (Err fault) meaning = (fault ≡ no_memory) ⊎ (meaning ≡ Err fault)
