-- What a map says beside a listing, by what was read of both.
use Rattle.std.proofs.Common.{◌≡◌, ℕ, List, [], ◌∷◌, map, refl, ap, sym, ◌∙◌, inl, inr}
use Rattle.std.specs.Prelude.{◌⊎◌, Result, Ok, Err}
use Rattle.cheri_model.specs.runs.Image.{ImageParts}
use Rattle.listings.specs.declared.fault.ListingFault.{ListingFault}
use Rattle.listings.specs.Faults.{no_memory}
use Rattle.listings.specs.Meaning.{listing_meaning}
use Rattle.inputs.specs.Faults.{listing_fault}
use Rattle.inputs.specs.Reading.{image_of_meaning}
use Rattle.inputs.specs.declared.fault.InputFault.{InputFault}
use Rattle.asm_map_reader.specs.declared.source.Source.{Source}
use Rattle.asm_map_reader.specs.declared.draft.Counts.{Counts}
use Rattle.asm_map_reader.specs.Reading.{map_meaning}
use Rattle.asm_map_reader.specs.Sources.{SourceParts, source_parts, source_text}
use Rattle.explanations.specs.InstructionLines.{shown_source}
use Rattle.program_io.specs.declared.fault.Fault.TheVariants.{Input, Own}
use Rattle.explain_program.specs.declared.faults.OwnFault.TheVariants.{Map}
use Rattle.explain_program.specs.Faults.{Fault}
use Rattle.explain_program.specs.Mapped.{GivesSources, counts_of, shown_by, shown_of, shown_sources}

texts_of : (sources : List Source) → map source_text (map source_parts sources) ≡ map shown_source sources
texts_of [] = refl
texts_of (source ∷ sources) = ap (λ (texts : List (List ℕ)). source_text (source_parts source) ∷ texts) (texts_of sources)

-- a listing that is refused
pub listing_refused : (listing bytes : List ℕ) (fault : ListingFault) (told : InputFault) → told ≡ listing_fault fault
    → (fault ≡ no_memory) ⊎ (listing_meaning listing ≡ Err fault) → GivesSources (Err (Input told)) (shown_sources listing bytes)
unfolding shown_sources
listing_refused listing bytes fault told is (inl none) = inl (ap (λ (f : InputFault). Input f) (is ∙ ap listing_fault none))
listing_refused listing bytes fault told is (inr meaning) =
    inr (ap (λ (m : Result ImageParts ListingFault). shown_by bytes (image_of_meaning m)) meaning
    ∙ ap (λ (f : InputFault). Err (Input f)) (sym is))

-- what a map says of an image
meant : (listing bytes : List ℕ) (image : ImageParts) (counts : Counts) (meaning : Result (List SourceParts) ℕ)
    → listing_meaning listing ≡ Ok image → counts ≡ counts_of image → map_meaning counts bytes ≡ meaning
    → shown_sources listing bytes ≡ shown_of meaning
unfolding shown_sources
meant listing bytes image counts meaning means is read =
    ap (λ (m : Result ImageParts ListingFault). shown_by bytes (image_of_meaning m)) means
    ∙ (ap (λ (c : Counts). shown_of (map_meaning c bytes)) (sym is) ∙ ap shown_of read)

pub sources_read : (listing bytes : List ℕ) (image : ImageParts) (counts : Counts) (sources : List Source)
    → listing_meaning listing ≡ Ok image → counts ≡ counts_of image → map_meaning counts bytes ≡ Ok (map source_parts sources)
    → shown_sources listing bytes ≡ Ok (map shown_source sources)
sources_read listing bytes image counts sources means is read =
    meant listing bytes image counts (Ok (map source_parts sources)) means is read
    ∙ ap (λ (texts : List (List ℕ)). Ok texts) (texts_of sources)

pub map_refused : (listing bytes : List ℕ) (image : ImageParts) (counts : Counts) (line : ℕ)
    → listing_meaning listing ≡ Ok image → counts ≡ counts_of image → map_meaning counts bytes ≡ Err line
    → shown_sources listing bytes ≡ Err (Own (Map line))
map_refused listing bytes image counts line means is read = meant listing bytes image counts (Err line) means is read
