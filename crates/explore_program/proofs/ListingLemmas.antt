-- What the texts of a listing and of its map mean, by what was read of both.
use Rattle.std.proofs.Common.{◌≡◌, ℕ, List, Option, ap, sym, ◌∙◌, inl, inr}
use Rattle.std.specs.Prelude.{◌⊎◌, option_map, Result, Ok, Err, Vec}
use Rattle.std.specs.Global.{Global}
use Rattle.asm_map_reader.specs.declared.source.Source.{Source}
use Rattle.cheri_model.specs.runs.Image.{ImageParts}
use Rattle.explained_orders.specs.ExplainedOrders.{Sources}
use Rattle.listings.specs.declared.fault.ListingFault.{ListingFault}
use Rattle.listings.specs.Faults.{no_memory as listing_no_memory}
use Rattle.listings.specs.Meaning.{listing_meaning}
use Rattle.inputs.specs.Faults.{listing_fault}
use Rattle.inputs.specs.Reading.{image_of_meaning}
use Rattle.inputs.specs.declared.fault.InputFault.{InputFault}
use Rattle.program_io.specs.Faults.{no_memory}
use Rattle.program_io.specs.declared.fault.Fault.TheVariants.{Input}
use Rattle.explore_program.specs.Faults.{Fault}
use Rattle.explore_program.specs.Listings.{GivesImage, mapped_image_of, of_listing, of_sources, sources_in, sources_meant}

module _ (listing : List ℕ) (map : Option (List ℕ)) where
  -- a listing that is refused
  pub listing_refused : (fault : ListingFault) (told : InputFault) → told ≡ listing_fault fault
      → (fault ≡ listing_no_memory) ⊎ (listing_meaning listing ≡ Err fault) → GivesImage (Err (Input told)) (mapped_image_of listing map)
  unfolding mapped_image_of
  listing_refused fault told is (inl none) = inl (ap (λ (f : InputFault). Input f) (is ∙ ap listing_fault none))
  listing_refused fault told is (inr meaning) =
      inr (ap (λ (m : Result ImageParts ListingFault). of_listing map (image_of_meaning m)) meaning
      ∙ ap (λ (f : InputFault). Err (Input f)) (sym is))

  module _ (image : ImageParts) (means : listing_meaning listing ≡ Ok image) where
    meant : (meaning : Result Sources Fault) → sources_meant image map ≡ meaning → mapped_image_of listing map ≡ of_sources image meaning
    unfolding mapped_image_of
    meant meaning read =
        ap (λ (m : Result ImageParts ListingFault). of_listing map (image_of_meaning m)) means ∙ ap (of_sources image) read

    pub image_read : (sources : Option (Vec Source Global)) → sources_meant image map ≡ Ok (option_map sources_in sources)
        → mapped_image_of listing map ≡ Ok (record { image = image; sources = option_map sources_in sources })
    image_read sources read = meant (Ok (option_map sources_in sources)) read

    pub map_refused : (fault : Fault) → (fault ≡ no_memory) ⊎ (sources_meant image map ≡ Err fault) → GivesImage (Err fault) (mapped_image_of listing map)
    map_refused fault (inl none) = inl none
    map_refused fault (inr is) = inr (meant (Err fault) is)
