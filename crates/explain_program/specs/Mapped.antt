-- What a map says beside a listing.
use Rattle.std.specs.Prelude.{◌≡◌, ℕ, List, map, Option, None, Result, Ok, Err, ◌⊎◌, Vec, length}
use Rattle.std.specs.Global.{Global}
use Rattle.cheri_model.specs.runs.Image.{ImageParts}
use Rattle.inputs.specs.Reading.{image_meant}
use Rattle.inputs.specs.declared.fault.InputFault.{InputFault}
use Rattle.asm_map_reader.specs.declared.draft.Counts.{Counts}
use Rattle.asm_map_reader.specs.declared.source.Source.{Source}
use Rattle.asm_map_reader.specs.Reading.{map_meaning}
use Rattle.asm_map_reader.specs.Sources.{SourceParts, source_text}
use Rattle.explanations.specs.InstructionLines.{shown_source}
use Rattle.program_io.specs.Faults.{no_memory}
use Rattle.program_io.specs.declared.fault.Fault.TheVariants.{Input, Own}
use Rattle.explain_program.specs.declared.faults.OwnFault.TheVariants.{CannotReadMap, Map}
use Rattle.explain_program.specs.Faults.{Fault}

-- what the map of an image's program has to have
abbrev pub counts_of : ImageParts → Counts
counts_of image = record { instructions = length image.program; harts = length image.harts }

-- what instructions come from, as it is shown, or the line of the map that is wrong
abbrev pub shown_of : Result (List SourceParts) ℕ → Result (List (List ℕ)) Fault
shown_of (Ok sources) = Ok (map source_text sources)
shown_of (Err line) = Err (Own (Map line))

-- the listing is judged before the map
abbrev pub shown_by : List ℕ → Result ImageParts InputFault → Result (List (List ℕ)) Fault
shown_by bytes (Ok image) = shown_of (map_meaning (counts_of image) bytes)
shown_by bytes (Err fault) = Err (Input fault)

unfoldable pub shown_sources : List ℕ → List ℕ → Result (List (List ℕ)) Fault
shown_sources listing bytes = shown_by bytes (image_meant listing)

-- a listing and a map were read as they mean, or out of memory
abbrev pub GivesSources : Result (Vec Source Global) Fault → Result (List (List ℕ)) Fault → Type 0
GivesSources (Ok sources) meaning = meaning ≡ Ok (map shown_source sources.items)
GivesSources (Err fault) meaning = (fault ≡ no_memory) ⊎ (meaning ≡ Err fault)

-- why a map's file was not read, whose bytes are these, where they are known
abbrev pub IsMapUnread : Option (List ℕ) → Fault → Type 0
IsMapUnread file fault = (fault ≡ no_memory) ⊎ ((fault ≡ Own CannotReadMap) × (file ≡ None))

-- what is so of what instructions come from, or the fault
abbrev pub OfSources : {A : Type 0} → (Fault → A) → Result (List (List ℕ)) Fault
    → (List (List ℕ) → Type 0) → A → Type 0
OfSources refused (Ok sources) IsSo answer = IsSo sources
OfSources refused (Err fault) IsSo answer = answer ≡ refused fault
