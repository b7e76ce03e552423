-- What is told of the run of a listing by the map of its program.
use Rattle.std.specs.Prelude.{◌≡◌, ◌⊎◌, ℕ, List, [], map, length, Some, Result, Ok, Err, Vec}
use Rattle.std.specs.Global.{Global}
use Rattle.cheri_model.specs.runs.Image.{ImageParts}
use Rattle.listings.specs.declared.fault.ListingFault.{ListingFault}
use Rattle.listings.specs.Meaning.{listing_meaning}
use Rattle.asm_map_reader.specs.declared.draft.Counts.{Counts}
use Rattle.asm_map_reader.specs.declared.source.Source.{Source}
use Rattle.asm_map_reader.specs.Reading.{map_meaning}
use Rattle.asm_map_reader.specs.Sources.{SourceParts, source_text}
use Rattle.explanations.specs.InstructionLines.{shown_source}
use Rattle.explanations.specs.ExplainedRuns.{mapped}
use Rattle.explanations.specs.declared.runs.Format.TheVariants as formats
use Rattle.explanations.specs.declared.selection.Filter.TheVariants as filters
use Rattle.cheri_page.specs.declared.fault.Fault.{Fault}
use Rattle.cheri_page.specs.declared.fault.Fault.TheVariants.{NoMemory, Map}
use Rattle.cheri_page.specs.Answers.{Told, out_of_memory}
use Rattle.cheri_page.specs.Faults.{listing_fault}
use Rattle.cheri_page.specs.Runs.{IsRunTold}

-- what the map of an image's program has to have
abbrev pub counts_of : ImageParts → Counts
counts_of image = record { instructions = length image.program; harts = length image.harts }

-- what instructions come from, as it is shown, or the line of the map that is wrong
abbrev pub shown_of : Result (List SourceParts) ℕ → Result (List (List ℕ)) Fault
shown_of (Ok sources) = Ok (map source_text sources)
shown_of (Err line) = Err (Map line)

-- the listing is judged before the map
abbrev pub shown_by : List ℕ → Result ImageParts ListingFault → Result (List (List ℕ)) Fault
shown_by bytes (Ok image) = shown_of (map_meaning (counts_of image) bytes)
shown_by bytes (Err fault) = Err (listing_fault fault)

unfoldable pub sources_meant : List ℕ → List ℕ → Result (List (List ℕ)) Fault
sources_meant listing bytes = shown_by bytes (listing_meaning listing)

-- a listing and a map were read as they mean, or out of memory
abbrev pub GivesSources : Result (Vec Source Global) Fault → Result (List (List ℕ)) Fault → Type 0
GivesSources (Ok sources) meaning = meaning ≡ Ok (map shown_source sources.items)
GivesSources (Err fault) meaning = (fault ≡ NoMemory) ⊎ (meaning ≡ Err fault)

-- the explanation of the events of a run from `first` to `last`, or the fault of the listing, the
-- map or the order, in this sequence
abbrev pub IsSourcedRun : Result (List (List ℕ)) Fault → List ℕ → List ℕ → ℕ → ℕ → Told → Type 0
IsSourcedRun (Ok sources) listing order first last told =
    IsRunTold
    (mapped formats.Text (Some sources) listing
    (record { first = first; last = last; filter = filters.All }))
    listing order told
IsSourcedRun (Err fault) listing order first last told =
    told ≡ record { text = []; fault = Some fault }

abbrev pub IsMappedTold : List ℕ → List ℕ → List ℕ → ℕ → ℕ → Told → Type 0
IsMappedTold listing order bytes first last told =
    (told ≡ out_of_memory)
    ⊎ IsSourcedRun (sources_meant listing bytes) listing order first last told
