-- What the texts of a listing and of its map mean.
use Rattle.std.specs.Prelude.{◌≡◌, ◌⊎◌, ℕ, List, map, Option, Some, None, option_map, Result, Ok}
use Rattle.std.specs.Prelude.{Err}
use Rattle.std.specs.Prelude.{Vec}
use Rattle.std.specs.Borrow.{Bor}
use Rattle.std.specs.Global.{Global}
use Rattle.asm_map_reader.specs.Sources.{SourceParts, source_parts}
use Rattle.asm_map_reader.specs.declared.source.Source.{Source}
use Rattle.cheri_model.specs.runs.Image.{ImageParts}
use Rattle.explained_orders.specs.ExplainedOrders.{Sources}
use Rattle.inputs.specs.Reading.{image_meant}
use Rattle.inputs.specs.declared.fault.InputFault.{InputFault}
use Rattle.listing_maps.specs.Names.{sources_parts}
use Rattle.listing_maps.specs.Reading.{sources_of}
use Rattle.program_io.specs.Faults.{no_memory}
use Rattle.program_io.specs.declared.fault.Fault.TheVariants.{Input, Own}
use Rattle.explore_program.specs.Faults.{Fault}
use Rattle.explore_program.specs.declared.faults.OwnFault.TheVariants.{CannotReadMap, Map}
use Rattle.explore_program.specs.declared.listing.Listed.{Listed}
use Rattle.explore_program.specs.declared.listing.MappedImage.{MappedImage}

-- the text of a listing, and what its map, if there is one, says that its instructions come from
pub record ListedParts : Type 0 where
  pub text : List ℕ
  pub sources : Sources

abbrev pub listed_of : Listed → ListedParts
listed_of listed =
    record { text = listed.text.now; sources = option_map sources_parts listed.sources }

-- an image, and what its program's map, if there is one, says
pub record MappedParts : Type 0 where
  pub image : ImageParts
  pub sources : Sources

-- what a map's text, if there is one, means beside an image, or the line that is wrong
abbrev pub of_map : Result (List SourceParts) ℕ → Result Sources Fault
of_map (Ok sources) = Ok (Some sources)
of_map (Err line) = Err (Own (Map line))

abbrev pub sources_meant : ImageParts → Option (List ℕ) → Result Sources Fault
sources_meant image None = Ok None
sources_meant image (Some map) = of_map (sources_of image map)

-- what both texts mean: the listing is judged before the map
abbrev pub of_sources : ImageParts → Result Sources Fault → Result MappedParts Fault
of_sources image (Ok sources) = Ok (record { image = image; sources = sources })
of_sources image (Err fault) = Err fault

abbrev pub of_listing : Option (List ℕ) → Result ImageParts InputFault → Result MappedParts Fault
of_listing map (Ok image) = of_sources image (sources_meant image map)
of_listing map (Err fault) = Err (Input fault)

unfoldable pub mapped_image_of : List ℕ → Option (List ℕ) → Result MappedParts Fault
mapped_image_of listing map = of_listing map (image_meant listing)

-- ---- answers

abbrev pub bytes_in : Bor (List ℕ) → List ℕ
bytes_in bytes = bytes.now

abbrev pub sources_in : Vec Source Global → List SourceParts
sources_in sources = map source_parts sources.items

abbrev pub mapped_parts : MappedImage → MappedParts
mapped_parts mapped =
    record { image = mapped.image; sources = option_map sources_in mapped.sources }

-- texts were read as they mean, or out of memory
abbrev pub GivesSources : Result (Option (Vec Source Global)) Fault → Result Sources Fault
    → Type 0
GivesSources (Ok sources) meaning = meaning ≡ Ok (option_map sources_in sources)
GivesSources (Err fault) meaning = (fault ≡ no_memory) ⊎ (meaning ≡ Err fault)

abbrev pub GivesImage : Result MappedImage Fault → Result MappedParts Fault → Type 0
GivesImage (Ok mapped) meaning = meaning ≡ Ok (mapped_parts mapped)
GivesImage (Err fault) meaning = (fault ≡ no_memory) ⊎ (meaning ≡ Err fault)

-- why a map's file was not read, whose bytes are these, where they are known
abbrev pub IsMapUnread : Option (List ℕ) → Fault → Type 0
IsMapUnread file fault = (fault ≡ no_memory) ⊎ ((fault ≡ Own CannotReadMap) × (file ≡ None))
