-- What is answered to `merge`: what the runs of many slices of a sample gave.
use Rattle.std.specs.Prelude.{◌≡◌, ◌⊎◌, ℕ, List, Option, None, Ok, Err}
use Rattle.cheri_model.specs.runs.Image.{ImageParts}
use Rattle.explore_line.specs.Samples.{MergeAsked}
use Rattle.explore_properties.specs.Properties.{PropertyParts}
use Rattle.explore_properties.specs.Reading.{properties_of}
use Rattle.grammar.specs.Labels.{LabelParts, labels_of}
use Rattle.inputs.specs.Files.{KnownFiles}
use Rattle.inputs.specs.Reading.{OfFile, OfMeant, image_meant}
use Rattle.inputs.specs.declared.fault.InputFault.TheVariants.{CannotReadListing}
use Rattle.listing_maps.specs.Names.{named}
use Rattle.printing.specs.Endings.{Answer}
use Rattle.program_io.specs.Faults.{no_memory}
use Rattle.program_io.specs.declared.fault.Fault.TheVariants.{Input, Own}
use Rattle.sample_checks.specs.declared.told.PropertySeen.{PropertySeen}
use Rattle.sample_merges.specs.Lines.{slice_lines}
use Rattle.sample_merges.specs.Merged.{AreMerged, FirstRefused, MergedParts}
use Rattle.sample_slices.specs.Slices.{AreTold, IsTextOf, ListingParts, SliceParts}
use Rattle.sample_slices.specs.Slices.{asked as properties_asked, looked_at, properties_known}
use Rattle.sample_slices.specs.declared.fault.SliceError.TheVariants as errors
use Rattle.sample_slices.specs.declared.fault.SliceFault.{SliceFault}
use Rattle.sample_texts.specs.PropertyTexts.{sample_ending}
use Rattle.shown_states.specs.declared.form.Ending.{Ending}
use Rattle.shown_states.specs.declared.form.Format.{Format}
use Rattle.explore_program.specs.Faults.{Fault}
use Rattle.explore_program.specs.Questions.{format_of}
use Rattle.explore_program.specs.declared.faults.OwnFault.TheVariants.{CannotReadSlices, Slice}

-- the properties that are looked at
abbrev pub properties_in : MergedParts → List PropertyParts
properties_in merged =
    properties_asked (looked_at merged.listing.properties merged.whole.is_checked)

-- A text tells what slices of a machine gave, and it ends by the first property that is violated.
pub record IsMergeTold (format : Format) (merged : MergedParts) (text : List ℕ) (ending : Ending)
    : Type 0 where
  pub text_is : IsTextOf merged.listing.image (properties_in merged) merged.whole format text
  pub told : List PropertySeen
  pub are_told : AreTold merged.listing.image (properties_in merged) merged.whole told
  pub ending_is : ending ≡ sample_ending told

-- what a listing with these labels, this text and this image means to slices: its properties count
-- where they are good
abbrev pub listing_known : LabelParts → List ℕ → ImageParts → ListingParts
listing_known labels text image = record {
  image = image;
  properties = properties_known (properties_of (named labels None) image text);
}

-- the lines are slices that go together, and the text tells of their sum
pub record AreSlicesTold (asked : MergeAsked) (listing : ListingParts) (lines : List (List ℕ))
    (text : List ℕ) (ending : Ending) : Type 0 where
  pub whole : SliceParts
  pub are_merged : AreMerged listing lines whole
  pub told : IsMergeTold (format_of asked.form) (record { listing = listing; whole = whole }) text
      ending

-- a line is refused
pub record IsLineRefused (listing : ListingParts) (lines : List (List ℕ)) (fault : Fault)
    : Type 0 where
  pub slice : SliceFault
  pub is : fault ≡ Own (Slice slice)
  pub refused : FirstRefused listing lines (errors.Slice slice)

abbrev pub AreSlicesSaid : MergeAsked → ListingParts → List (List ℕ) → Answer Ending Fault → Type 0
AreSlicesSaid asked listing lines (Ok (text, ending)) =
    AreSlicesTold asked listing lines text ending
AreSlicesSaid asked listing lines (Err fault) = IsLineRefused listing lines fault

-- of the listing with these labels, this text and this image
abbrev pub IsLabelledMerged : MergeAsked → LabelParts → List ℕ → ImageParts → List ℕ
    → Answer Ending Fault → Type 0
IsLabelledMerged asked labels text image slices answer =
    AreSlicesSaid asked (listing_known labels text image) (slice_lines slices) answer

abbrev pub IsTextMerged : MergeAsked → List ℕ → ImageParts → List ℕ → Answer Ending Fault → Type 0
IsTextMerged asked text image slices answer =
    IsLabelledMerged asked (labels_of text) text image slices answer

-- of these texts
abbrev pub AreTextsMerged : MergeAsked → List ℕ → List ℕ → Answer Ending Fault → Type 0
AreTextsMerged asked text slices answer =
    OfMeant (image_meant text) (λ fault. Err (Input fault))
    (λ image. IsTextMerged asked text image slices answer) answer

-- The answers to `merge`: both files are read, the listing's first; then the listing is judged, and
-- then the slices.
abbrev pub IsMerged : KnownFiles → MergeAsked → Answer Ending Fault → Type 0
IsMerged files asked answer =
    OfFile (files asked.listing) (Err (Input CannotReadListing))
    (λ text. OfFile (files asked.slices) (Err (Own CannotReadSlices))
    (λ slices. AreTextsMerged asked text slices answer) answer) answer

-- why the file of slices was not read, whose bytes are these, where they are known
abbrev pub IsSlicesUnread : Option (List ℕ) → Fault → Type 0
IsSlicesUnread file fault = (fault ≡ no_memory) ⊎ ((fault ≡ Own CannotReadSlices) × (file ≡ None))
